-- What the tests of orders, vertices and pairs say.
use Prim.Native.Nat.{ℕ, ◌≤◌, ◌<◌}
use mathlib.Core.Path.{◌≡◌, refl, sym, ◌∙◌}
use mathlib.Core.Logic.{◌≢◌}
use mathlib.Core.Bool.{Bool, true, false, not}
use lib.Dec.{leb, eqb}
use borrow.Author.Tests.{le-leb, lt-leb, leb-true, eqb-false, not-true}
use Rattle.laws.specs.Test.{both}
use Rattle.laws.specs.TestLaws.{both_first, both_second, both_hold}
use Rattle.pairs.specs.Vertices.{order_fits, is_vertex, is_pair}

-- ---- orders

pub order_zero : (order : ℕ) → order < 1 → false ≡ order_fits order
unfolding order_fits both
order_zero order h = rw (lt-leb 1 order h)

pub order_some : (order : ℕ) → 1 ≤ order → leb order 32 ≡ order_fits order
unfolding order_fits both
order_some order h = rw (le-leb 1 order h)

pub order_most : (order : ℕ) (b : Bool) → b ≡ order_fits order → b ≡ true → order ≤ 32
unfolding order_fits
order_most order b e h = leb-true order 32 (both_second (leb 1 order) (leb order 32) (sym e ∙ h))

-- the order is in range
pub order_in_range : (n : ℕ) → order_fits n ≡ true → (1 ≤ n) × (n ≤ 32)
unfolding order_fits
order_in_range n t = (leb-true 1 n (both_first _ _ t), leb-true n 32 (both_second _ _ t))

-- an order in range passes the test
pub order_tested : (n : ℕ) → 1 ≤ n → n ≤ 32 → order_fits n ≡ true
unfolding order_fits
order_tested n low high = both_hold _ _ (le-leb 1 n low) (le-leb n 32 high)

-- ---- vertices

pub vertex_zero : (n v : ℕ) → v < 1 → false ≡ is_vertex n v
unfolding is_vertex both
vertex_zero n v h = rw (lt-leb 1 v h)

pub vertex_some : (n v : ℕ) → 1 ≤ v → leb v n ≡ is_vertex n v
unfolding is_vertex both
vertex_some n v h = rw (le-leb 1 v h)

module _ (n v : ℕ) (c : Bool) (p : c ≡ is_vertex n v) (q : c ≡ true) where
  pub vertex_low : 1 ≤ v
  unfolding is_vertex
  vertex_low = leb-true 1 v (both_first (leb 1 v) (leb v n) (sym p ∙ q))

  pub vertex_high : v ≤ n
  unfolding is_vertex
  vertex_high = leb-true v n (both_second (leb 1 v) (leb v n) (sym p ∙ q))

-- ---- pairs

module _ (n i j : ℕ) (c : Bool) (p : c ≡ is_pair n i j) (q : c ≡ true) where
  two_vertices : both (is_vertex n j) (not (eqb i j)) ≡ true
  unfolding is_pair
  two_vertices = both_second (is_vertex n i) (both (is_vertex n j) (not (eqb i j))) (sym p ∙ q)

  pub row_vertex : is_vertex n i ≡ true
  unfolding is_pair
  row_vertex = both_first (is_vertex n i) (both (is_vertex n j) (not (eqb i j))) (sym p ∙ q)

  pub column_vertex : is_vertex n j ≡ true
  column_vertex = both_first (is_vertex n j) (not (eqb i j)) two_vertices

  pub row_low : 1 ≤ i
  row_low = vertex_low n i (is_vertex n i) refl row_vertex

  pub column_low : 1 ≤ j
  column_low = vertex_low n j (is_vertex n j) refl column_vertex

  pub apart : i ≢ j
  apart = eqb-false i j (not-true (eqb i j) (both_second (is_vertex n j) (not (eqb i j)) two_vertices))
