-- A certificate of a graph with its winning pair: the pairs under it, the pair, and the places of its vertices.
use Prim.Native.Nat.{ℕ, ◌≤◌, ◌<◌}
use native.Mathlib.Omega.{arith}
use mathlib.Core.Path.{◌≡◌, sym, ◌∙◌}
use mathlib.Core.Logic.{◌≢◌}
use mathlib.Core.Bool.{true}
use mathlib.Core.List.{List, Memᴰ}
use Rattle.needed.specs.Settled.{Turned, WonWalk}
use Rattle.schemes.specs.Judging.{walk_of}
use Rattle.plain.specs.Plain.{same_pair, image, compared_in}
use Rattle.plain.specs.Before.{before_in}
use Rattle.plain.proofs.Modes.{mode_has}
use Rattle.graph.specs.declared.Graph.{Graph}
use Rattle.graph.specs.Graph.{graph_of}
use Rattle.graph.specs.Counts.{entry_at}
use Rattle.graph.specs.WellFormed.{WellFormed}
use Rattle.graph.proofs.Formed.{formed}
use Rattle.arrangements.specs.Arrangement.{at, Reordering, Permitted, is_reordering}
use Rattle.arrangements.proofs.Permits.{permitted, reordering_tested}
use Rattle.composing.specs.Composed.{inverse}
use Rattle.composing.proofs.Composing.{inverse_after, inverse_reordering}
use Rattle.pairs.specs.Pairs.{Pair, pair, Between}
use Rattle.judging.proofs.Literals.{winning_between}
use Rattle.turns.specs.Turns.{Places}
use Rattle.dropped.specs.Dropping.{WinsAt}
use Rattle.dropped.proofs.ModeTurned.{mode_turned}

-- the inverse has the places of its vertices
pub inverse_places : (n starts : ℕ) (p q : List ℕ) → n ≤ 32 → Permitted n starts p → q ≡ inverse n p → Places n p q
inverse_places n starts p q small a e =
    let r = a.reordering in
    record {
      arranged = record { within = record { low = r.low; high = λ i l h. omega (arith, r.high i l h) }; below = r.high; once = r.once };
      undone = λ i l h. rw e (inverse_after n p r i l h);
    }

module _ {mode : ℕ} {g : Graph} {p q : List ℕ} {w : Pair} (won_at : WinsAt mode g p q w) where
  pub well_formed_lem : WellFormed g
  well_formed_lem = formed g won_at.well

  small : g.order ≤ 32
  small = well_formed_lem.order_high

  rearranges : Permitted g.order g.starts p
  rearranges = permitted g.order g.starts p small won_at.fits

  pub turned : Turned same_pair (before_in mode) (image p) (image q) (compared_in mode g.order)
  turned = rw won_at.inverts (mode_turned mode g.order p small rearranges.reordering)

  pub won_walk : WonWalk same_pair (before_in mode) (image p) (image q) (compared_in mode g.order) (entry_at g) w
  unfolding walk_of
  won_walk = record { turned = turned; wins = won_at.wins }

  pub winning_is : Between 1 g.order w
  winning_is = winning_between mode g p w won_at.wins

  pub winning_listed : Memᴰ w (compared_in mode g.order)
  winning_listed = mode_has mode g.order w winning_is

-- ---- as the code meets it

module _ {mode n starts : ℕ} {e u p q : List ℕ} {row column : ℕ} (won_at : WinsAt mode (graph_of n e u starts) p q (pair row column)) where
  pub order_high : n ≤ 32
  order_high = (well_formed_lem won_at).order_high

  pub reorders : Reordering n p
  reorders = (rearranges won_at).reordering

  inverse_is : q ≡ inverse n p
  inverse_is = won_at.inverts

  pub row_low : 1 ≤ row
  row_low = (winning_is won_at).from_low

  pub row_before_lem : row < column
  row_before_lem = (winning_is won_at).rising

  pub column_high : column ≤ n
  column_high = (winning_is won_at).to_high

  pub column_low : 1 ≤ column
  column_low = omega (arith, row_low, row_before_lem)

  pub row_fits : row ≤ 32
  row_fits = omega (arith, row_before_lem, column_high, order_high)

  pub row_high : row ≤ n
  row_high = omega (arith, row_before_lem, column_high)

  pub row_apart : row ≢ column
  row_apart e = omega (arith, row_before_lem)

  pub column_fits : column ≤ 32
  column_fits = omega (arith, column_high, order_high)

  pub inverse_tested : is_reordering n q ≡ true
  inverse_tested = rw inverse_is (reordering_tested n (inverse n p) (inverse_reordering n p reorders order_high))

  pub places_are : Places n p q
  places_are = inverse_places n starts p q order_high (rearranges won_at) inverse_is

  -- the vertices at the winning pair
  module _ (a b : ℕ) (at_row : a ≡ at p row) (at_column : b ≡ at p column) where
    pub first_low : 1 ≤ a
    first_low = rw at_row (reorders.low row row_low (omega (arith, row_before_lem, column_high)))

    pub first_high : a ≤ n
    first_high = rw at_row (reorders.high row row_low (omega (arith, row_before_lem, column_high)))

    pub second_low : 1 ≤ b
    second_low = rw at_column (reorders.low column column_low column_high)

    pub second_high : b ≤ n
    second_high = rw at_column (reorders.high column column_low column_high)

    pub two_vertices : a ≢ b
    two_vertices e = reorders.once column row row_low row_before_lem column_high (sym at_column ∙ sym e ∙ at_row)
