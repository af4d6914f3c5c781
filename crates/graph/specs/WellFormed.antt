-- When a graph value is well formed: as facts, and as the test that the code makes.
use Rattle.std.specs.Prelude.{ℕ, ◌≤◌, ◌<◌, ◌≡◌, Bool, length, eqb}
use Rattle.laws.specs.Test.{both}
use Rattle.laws.specs.UpTo.{all_up_to}
use Rattle.graph.specs.declared.Graph.{Graph}
use Rattle.pairs.specs.Vertices.{order_fits}
use Rattle.rows.specs.Rows.{start_at}
use Rattle.rows.specs.Fits.{row_fits, starts_fit}
use Rattle.graph.specs.Graph.{entry}

pub record WellFormed (g : Graph) : Type 0 where
  pub order_low : 1 ≤ g.order
  pub order_high : g.order ≤ 32
  pub rows_of_edges : length g.edges ≡ 32
  pub rows_of_unknowns : length g.unknowns ≡ 32
  pub symmetric : (i j : ℕ) → entry g i j ≡ entry g j i
  pub no_loop : (i : ℕ) → entry g i i ≡ 0
  pub none_past : (i j : ℕ) → g.order < j → entry g i j ≡ 0
  pub not_both : (i j : ℕ) → entry g i j ≤ 2
  pub first_starts : start_at g.starts 1 ≡ 1
  pub no_start_past : (v : ℕ) → g.order < v → start_at g.starts v ≡ 0

-- ---- the test

unfoldable pub well_formed : Graph → Bool
well_formed g =
    both (both (eqb (length g.edges) 32) (eqb (length g.unknowns) 32))
    (both (order_fits g.order)
    (both (starts_fit g.order g.starts)
    (all_up_to (row_fits g.order g.edges g.unknowns) 32)))
