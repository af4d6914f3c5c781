-- What the tests before an answer say of the values that it is made of.
use Prim.Native.Nat.{ℕ, ◌-◌, ◌*◌, ◌/◌, ◌%◌, ◌^◌, ◌≤◌, ◌<◌}
use native.Mathlib.Nat.{lt_of_le_of_lt, mul-le-mul}
use native.Mathlib.Omega.{arith}
use mathlib.Core.Path.{◌≡◌, refl, sym, ap, ap₂, ◌∙◌}
use mathlib.Core.Bool.{Bool, true, false}
use mathlib.Core.List.{List}
use lib.ListN.{length}
use lib.Dec.{leb, lit<}
use borrow.Author.Tests.{eq-eqb, le-leb, lt-leb}
use Rattle.laws.specs.Test.{both}
use Rattle.laws.specs.TestLaws.{both_first, first_fails, second_fails}
use Rattle.laws.specs.UpTo.{all_up_to, sum_up_to}
use Rattle.laws.specs.UpToLaws.{word_same}
use Rattle.graph.specs.declared.Graph.{Graph}
use Rattle.rows.specs.Rows.{with_mark, ones_at}
use Rattle.words.specs.Placed.{placed}
use Rattle.graph.specs.Graph.{with_entry, relabelled}
use Rattle.graph.specs.WellFormed.{WellFormed, well_formed}
use Rattle.pairs.specs.Vertices.{order_fits, is_vertex, is_pair}
use Rattle.pairs.proofs.VertexLaws.{vertex_low, vertex_high, row_vertex, column_vertex}
use Rattle.rows.specs.Fits.{starts_fit, row_fits}
use Rattle.graph.specs.Counts.{pairs_with, edges_at}
use Rattle.arrangements.specs.Arrangement.{at, is_reordering, is_permitted, stays_in_block, moved_bit, moved_row}
use Rattle.graph.specs.Answers.{totals}
use Rattle.graph.proofs.Formed.{formed}
use Rattle.graph.proofs.CountLaws.{edges_half, unknowns_half, all_counted, non_edges_left, edges_at_ones}
use Rattle.words.proofs.Placed.{placed_same}
use Rattle.graph.proofs.Rows.{edge_bit, unknown_bit}
use Rattle.graph.proofs.Relabelling.{brought, brought_edges, brought_unknowns, relabelled_built}

-- ---- well-formedness, from its parts

module _ (g : Graph) (b : Bool) (o : b ≡ order_fits g.order) where
  pub formed_not_order : b ≡ false → false ≡ well_formed g
  unfolding well_formed
  formed_not_order h = sym (second_fails _ _ (first_fails _ _ (sym o ∙ h)))

  module _ (c : Bool) (s : c ≡ starts_fit g.order g.starts) where
    pub formed_not_starts : c ≡ false → false ≡ well_formed g
    unfolding well_formed
    formed_not_starts k = sym (second_fails _ _ (second_fails _ _ (first_fails _ _ (sym s ∙ k))))

    pub formed_rows : b ≡ true → c ≡ true → (d : Bool) → d ≡ all_up_to (row_fits g.order g.edges g.unknowns) 32 → length g.edges ≡ 32 → length g.unknowns ≡ 32 → d ≡ well_formed g
    unfolding well_formed both
    formed_rows h k d r e u = rw (eq-eqb (length g.edges) 32 e, eq-eqb (length g.unknowns) 32 u, sym o ∙ h, sym s ∙ k) r

-- ---- what the tests tell

module _ (g : Graph) (e : well_formed g ≡ true) where
  formed_by_test : WellFormed g
  formed_by_test = formed g e

  pub order_low : 1 ≤ g.order
  order_low = formed_by_test.order_low

  pub order_high : g.order ≤ 32
  order_high = formed_by_test.order_high

  module _ (v : ℕ) (c : Bool) (p : c ≡ is_vertex g.order v) (q : c ≡ true) where
    pub vertex_most : v ≤ 32
    vertex_most = omega (arith, order_high, vertex_high g.order v c p q)

    pub degree_is : (r : ℕ) → r ≡ ones_at g.edges v → r ≡ edges_at g v
    unfolding ones_at
    degree_is r k = k ∙ sym (edges_at_ones g formed_by_test v (vertex_low g.order v c p q) (vertex_high g.order v c p q))

  module _ (i j : ℕ) (c : Bool) (p : c ≡ is_pair g.order i j) (q : c ≡ true) where
    pub row_most : i ≤ 32
    row_most = vertex_most i (is_vertex g.order i) refl (row_vertex g.order i j c p q)

    pub column_most : j ≤ 32
    column_most = vertex_most j (is_vertex g.order j) refl (column_vertex g.order i j c p q)

  -- ---- counts

  module _ (x y : ℕ) (a : x ≡ sum_up_to (ones_at g.edges) 32) (k : y ≡ sum_up_to (ones_at g.unknowns) 32) where
    edges_are : x / 2 ≡ pairs_with g 1
    unfolding ones_at
    edges_are = ap (λ (m : ℕ). m / 2) a ∙ sym (edges_half g formed_by_test)

    unknowns_are : y / 2 ≡ pairs_with g 2
    unfolding ones_at
    unknowns_are = ap (λ (m : ℕ). m / 2) k ∙ sym (unknowns_half g formed_by_test)

    pub edges_within : x / 2 ≤ g.order * (g.order - 1) / 2
    edges_within = omega (arith, edges_are, all_counted g formed_by_test)

    pub unknowns_within : y / 2 ≤ g.order * (g.order - 1) / 2 - x / 2
    unknowns_within = omega (arith, edges_are, unknowns_are, all_counted g formed_by_test)

    pub totals_are : totals (x / 2) (g.order * (g.order - 1) / 2 - x / 2 - y / 2) (y / 2) ≡ totals (pairs_with g 1) (pairs_with g 0) (pairs_with g 2)
    totals_are = rw (edges_are, unknowns_are, ← non_edges_left g formed_by_test)

  pub pairs_fit : g.order * (g.order - 1) < 2 ^ 32
  pairs_fit = lt_of_le_of_lt (mul-le-mul {n₁ = g.order} {m₁ = g.order - 1} {n₂ = 32} {m₂ = 32} order_high (omega (arith, order_high))) (lit< tt)

  -- ---- relabelling

  moved_edges : (p : List ℕ) (i : ℕ) → moved_row g.edges p g.order i ≡ brought_edges g p i
  unfolding moved_row moved_bit
  moved_edges p i = word_same (moved_bit g.edges p i) (λ j. brought g p i j % 2) g.order (λ j l k. edge_bit g (at p i) (at p j))

  moved_unknowns : (p : List ℕ) (i : ℕ) → moved_row g.unknowns p g.order i ≡ brought_unknowns g p i
  unfolding moved_row moved_bit
  moved_unknowns p i = word_same (moved_bit g.unknowns p i) (λ j. brought g p i j / 2) g.order (λ j l k. unknown_bit g (at p i) (at p j))

  pub relabelled_is : (p edges unknowns : List ℕ) (r : Graph) → edges ≡ placed (moved_row g.edges p g.order) g.order
      → unknowns ≡ placed (moved_row g.unknowns p g.order) g.order
      → r ≡ record { order = g.order; edges = edges; unknowns = unknowns; starts = g.starts } → r ≡ relabelled g p
  relabelled_is p edges unknowns r a k q =
      q
      ∙ (relabelled_built g p formed_by_test edges unknowns
      (a ∙ placed_same (moved_row g.edges p g.order) (brought_edges g p) g.order (λ i l m. moved_edges p i))
      (k ∙ placed_same (moved_row g.unknowns p g.order) (brought_unknowns g p) g.order (λ i l m. moved_unknowns p i)))

-- ---- answers

pub set_is : (g : Graph) (i j value : ℕ) (edges unknowns : List ℕ) (r : Graph) → edges ≡ with_mark g.edges i j (value % 2)
    → unknowns ≡ with_mark g.unknowns i j (value / 2)
    → r ≡ record { order = g.order; edges = edges; unknowns = unknowns; starts = g.starts } → r ≡ with_entry g i j value
unfolding with_entry
set_is g i j value edges unknowns r a b q =
    q ∙ ap₂ {C = Graph} (λ (x y : List ℕ). record { order = g.order; edges = x; unknowns = y; starts = g.starts }) a b

pub value_held : (value : ℕ) → value ≤ 2 → true ≡ leb value 2
value_held value h = sym (le-leb value 2 h)

pub value_failed : (value : ℕ) → 2 < value → false ≡ leb value 2
value_failed value h = sym (lt-leb value 2 h)

pub permitted_reorders : (n starts : ℕ) (p : List ℕ) (r : Bool) → r ≡ is_permitted n starts p → r ≡ true → is_reordering n p ≡ true
unfolding is_permitted
permitted_reorders n starts p r e h = both_first (is_reordering n p) (all_up_to (stays_in_block starts p) n) (sym e ∙ h)
