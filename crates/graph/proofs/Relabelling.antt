-- A relabelled graph has g's entry (p(i), p(j)) at (i, j), and is well formed.
use Prim.Native.Nat.{ℕ, ◌/◌, ◌%◌, ◌≤◌}
use mathlib.Core.Path.{◌≡◌, refl, sym, ap, ap₂, ◌∙◌}
use mathlib.Core.List.{List}
use native.Mathlib.Omega.{arith}
use Rattle.laws.specs.UpTo.{word_up_to}
use Rattle.laws.specs.UpToLaws.{word_same}
use Rattle.graph.specs.declared.Graph.{Graph}
use Rattle.graph.specs.Graph.{entry, drawn, relabelled}
use Rattle.rows.specs.Rows.{mirrored}
use Rattle.words.specs.Placed.{placed}
use Rattle.graph.specs.WellFormed.{WellFormed}
use Rattle.arrangements.specs.Arrangement.{at}
use Rattle.words.proofs.Placed.{placed_same}
use Rattle.rows.proofs.Mirrored.{mirrored_itself}
use Rattle.graph.proofs.Drawn.{edge_row, unknown_row, drawn_entry, drawn_formed}

-- the entry that p brings to (i, j)
abbrev pub brought : Graph → List ℕ → ℕ → ℕ → ℕ
brought g p i j = entry g (at p i) (at p j)

-- the row of edges that p brings to vertex i
abbrev pub brought_edges : Graph → List ℕ → ℕ → ℕ
brought_edges g p i = word_up_to (λ j. brought g p i j % 2) g.order

-- and the row of unknowns
abbrev pub brought_unknowns : Graph → List ℕ → ℕ → ℕ
brought_unknowns g p i = word_up_to (λ j. brought g p i j / 2) g.order

module _ (g : Graph) (p : List ℕ) (w : WellFormed g) where
  -- what p brings is symmetric with zeros on the diagonal, so the table mirrors to itself
  pub brought_mirrored : (i j : ℕ) → mirrored (brought g p) i j ≡ brought g p i j
  brought_mirrored i j = mirrored_itself (brought g p) i j (w.symmetric (at p j) (at p i)) (w.no_loop (at p i))

  -- the order stays
  pub relabelled_order : (relabelled g p).order ≡ g.order
  unfolding relabelled drawn
  relabelled_order = refl

  -- the blocks stay
  pub relabelled_starts : (relabelled g p).starts ≡ g.starts
  unfolding relabelled drawn
  relabelled_starts = refl

  -- so its rows of edges are words of the entries brought
  pub relabelled_edges : (relabelled g p).edges ≡ placed (brought_edges g p) g.order
  unfolding relabelled drawn
  relabelled_edges =
      placed_same (edge_row (brought g p) g.order) (brought_edges g p) g.order
      (λ i li hi. word_same (λ j. mirrored (brought g p) i j % 2) (λ j. brought g p i j % 2) g.order
      (λ j lj hj. ap (λ (x : ℕ). x % 2) (brought_mirrored i j)))

  -- and so are its rows of unknowns
  pub relabelled_unknowns : (relabelled g p).unknowns ≡ placed (brought_unknowns g p) g.order
  unfolding relabelled drawn
  relabelled_unknowns =
      placed_same (unknown_row (brought g p) g.order) (brought_unknowns g p) g.order
      (λ i li hi. word_same (λ j. mirrored (brought g p) i j / 2) (λ j. brought g p i j / 2) g.order
      (λ j lj hj. ap (λ (x : ℕ). x / 2) (brought_mirrored i j)))

  -- the graph with these rows is the relabelled one
  pub relabelled_built : (edges unknowns : List ℕ) → edges ≡ placed (brought_edges g p) g.order → unknowns ≡ placed (brought_unknowns g p) g.order
      → ◌≡◌ {A = Graph} (record { order = g.order; edges = edges; unknowns = unknowns; starts = g.starts }) (relabelled g p)
  unfolding relabelled drawn
  relabelled_built edges unknowns e u =
      ap₂ {C = Graph} (λ (x y : List ℕ). record { order = g.order; edges = x; unknowns = y; starts = g.starts })
      (e ∙ sym relabelled_edges) (u ∙ sym relabelled_unknowns)

  -- the entry at (i, j) is g's at (p(i), p(j))
  pub relabelled_entry : (i j : ℕ) → 1 ≤ i → i ≤ g.order → 1 ≤ j → j ≤ g.order → entry (relabelled g p) i j ≡ entry g (at p i) (at p j)
  unfolding relabelled
  relabelled_entry i j li hi lj hj =
      drawn_entry g.order g.starts (brought g p) (λ a b la l hb. omega (arith, w.not_both (at p a) (at p b))) i j li hi lj hj
      ∙ brought_mirrored i j

  -- it is well formed
  pub relabelled_formed : WellFormed (relabelled g p)
  unfolding relabelled
  relabelled_formed =
      drawn_formed g.order g.starts (brought g p) w.order_low w.order_high w.first_starts w.no_start_past
      (λ i j li l hj. w.not_both (at p i) (at p j))
