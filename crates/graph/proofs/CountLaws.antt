-- The counts over a graph's pairs are sums of ones of its row masks.
use Prim.Native.Nat.{ℕ, zero, suc, ◌+◌, ◌-◌, ◌*◌, ◌/◌, ◌≤◌, ◌<◌}
use native.Mathlib.Omega.{arith}
use mathlib.Core.Path.{◌≡◌, refl, sym, ap, ap₂, ◌∙◌}
use mathlib.Core.Bool.{Bool, true, false}
use mathlib.Core.List.{List, [], ◌∷◌}
use lib.ListN.{length}
use lib.Dec.{eqb}
use lib.Count.{ones}
use borrow.Author.Tests.{eqb-true, eq-eqb, ne_eqb}
use Rattle.laws.specs.Test.{both, either, pick}
use Rattle.laws.specs.Bit.{bit}
use Rattle.laws.specs.UpTo.{sum_up_to}
use Rattle.laws.specs.UpToLaws.{sum_same, sum_added}
use Rattle.laws.specs.SumLaws.{sum_up_to_past, sum_up_to_one, sum_from, sum_from_up_to, sum_from_same, sum_from_add, sum_along, sum_along_append, ones_sum_low}
use Rattle.graph.specs.declared.Graph.{Graph}
use Rattle.words.specs.Placed.{row}
use Rattle.graph.specs.WellFormed.{WellFormed}
use Rattle.pairs.specs.Pairs.{Pair, along_row, from_row, pairs, pair_count, count_of}
use Rattle.graph.specs.Counts.{entry_at, pairs_with, edges_at}
use Rattle.pairs.proofs.PairLaws.{Mirrored, entry_of, from_row_split, pairs_length}

-- ---- sums over the pairs

-- along a row
row_sum : (a : ℕ → ℕ → ℕ) (i j m : ℕ) → sum_along (entry_of a) (along_row i j m) ≡ sum_from (a i) j m
unfolding sum_along sum_from along_row
row_sum a i j zero = refl
row_sum a i j (suc m) = ap (λ (x : ℕ). a i j + x) (row_sum a i (suc j) m)

-- the sum of a over the m vertices from i on, in rows and columns
square : (ℕ → ℕ → ℕ) → ℕ → ℕ → ℕ
square a i m = sum_from (λ u. sum_from (a u) i m) i m

-- the first row and the first column add up to the same
square_suc : (a : ℕ → ℕ → ℕ) → Mirrored a → (i m : ℕ) → square a i (suc m) ≡ 2 * sum_from (a i) (suc i) m + square a (suc i) m
unfolding square sum_from
square_suc a w i m =
    let column : sum_from (λ u. a u i) (suc i) m ≡ sum_from (a i) (suc i) m = sum_from_same (λ u. a u i) (a i) (suc i) m (λ u. w.symmetric u i) in
    let rest : sum_from (λ u. a u i + sum_from (a u) (suc i) m) (suc i) m ≡ sum_from (λ u. a u i) (suc i) m + sum_from (λ u. sum_from (a u) (suc i) m) (suc i) m =
    sum_from_add (λ u. a u i) (λ u. sum_from (a u) (suc i) m) (suc i) m in
    omega (arith, w.diagonal i)

-- so the square is twice the pairs
from_sum : (a : ℕ → ℕ → ℕ) → Mirrored a → (i m : ℕ) → 2 * sum_along (entry_of a) (from_row i (m - 1)) ≡ square a i m
unfolding square sum_from sum_along from_row
from_sum a w i zero = refl
from_sum a w i (suc m) =
    let e : suc m - 1 ≡ m = omega arith in
    let splits : sum_along (entry_of a) (from_row i (suc m - 1)) ≡ sum_from (a i) (suc i) m + sum_along (entry_of a) (from_row (suc i) (m - 1)) =
    ap (λ (x : ℕ). sum_along (entry_of a) (from_row i x)) e ∙ ap (sum_along (entry_of a)) (from_row_split i m)
    ∙ sum_along_append (entry_of a) (along_row i (suc i) m) (from_row (suc i) (m - 1))
    ∙ ap (λ (x : ℕ). x + sum_along (entry_of a) (from_row (suc i) (m - 1))) (row_sum a i (suc i) m) in
    omega (arith, square_suc a w i m, from_sum a w (suc i) m)

-- over all i and j a symmetric matrix with a zero diagonal adds up to twice its sum over the pairs
pub pairs_sum : (a : ℕ → ℕ → ℕ) → Mirrored a → (n : ℕ) → 2 * sum_along (entry_of a) (pairs n) ≡ sum_up_to (λ i. sum_up_to (a i) n) n
unfolding pairs square
pairs_sum a w n =
    from_sum a w 1 n ∙ sum_from_same (λ u. sum_from (a u) 1 n) (λ u. sum_up_to (a u) n) 1 n (λ u. sum_from_up_to (a u) n) ∙ sum_from_up_to (λ u. sum_up_to (a u) n) n

-- a count along a list is the sum of 1 for each pair that passes
count_sum : (f : Pair → Bool) (x : Pair → ℕ) → ((k : Pair) → pick (f k) 1 0 ≡ x k) → (ks : List Pair) → count_of f ks ≡ sum_along x ks
unfolding count_of sum_along
count_sum f x h [] = refl
count_sum f x h (k ∷ ks) = ap₂ ◌+◌ (h k) (count_sum f x h ks)

-- ---- the pairs that have a vertex

-- the entries of a in row v and in column v, and 0 elsewhere
touching : ℕ → (ℕ → ℕ → ℕ) → ℕ → ℕ → ℕ
touching v a i j = pick (either (eqb i v) (eqb j v)) (a i j) 0

-- it is symmetric too, with a zero diagonal
touching_mirrored : (v : ℕ) (a : ℕ → ℕ → ℕ) → Mirrored a → Mirrored (touching v a)
unfolding touching pick either
touching_mirrored v a w =
    record { symmetric = λ i j. swap (eqb i v) (eqb j v) (w.symmetric i j); diagonal = λ i. none (either (eqb i v) (eqb i v)) (w.diagonal i) }
  where
    swap : (s t : Bool) {x y : ℕ} → x ≡ y → pick (either s t) x 0 ≡ pick (either t s) y 0
    swap true true e = e
    swap true false e = e
    swap false true e = e
    swap false false e = refl

    none : (s : Bool) {x : ℕ} → x ≡ 0 → pick s x 0 ≡ 0
    none true e = e
    none false e = refl

-- row v is kept whole, and one entry of any other row
touching_row : (v : ℕ) (a : ℕ → ℕ → ℕ) → Mirrored a → (n i : ℕ) → 1 ≤ v → v ≤ n → sum_up_to (touching v a i) n ≡ a i v + pick (eqb i v) (sum_up_to (a i) n) 0
unfolding touching pick either
touching_row v a w n i l h = go (eqb i v) refl
  where
    go : (t : Bool) → eqb i v ≡ t → sum_up_to (λ j. pick (either t (eqb j v)) (a i j) 0) n ≡ a i v + pick t (sum_up_to (a i) n) 0
    go true e = let at : i ≡ v = eqb-true i v e in omega (arith, ap (a i) (sym at), w.diagonal i)
    go false e =
        sum_up_to_one (λ j. pick (eqb j v) (a i j) 0) n v l h (λ j p q d. rw (ne_eqb j v d)) ∙ rw (eq-eqb v v refl) (omega arith)

-- over the pairs that have v, a symmetric matrix with a zero diagonal adds up to its row v
touching_sum : (v : ℕ) (a : ℕ → ℕ → ℕ) → Mirrored a → (n : ℕ) → 1 ≤ v → v ≤ n → sum_along (entry_of (touching v a)) (pairs n) ≡ sum_up_to (a v) n
unfolding pick
touching_sum v a w n l h =
    let twice : 2 * sum_along (entry_of (touching v a)) (pairs n) ≡ sum_up_to (λ i. a i v) n + sum_up_to (λ i. pick (eqb i v) (sum_up_to (a i) n) 0) n =
    pairs_sum (touching v a) (touching_mirrored v a w) n
    ∙ sum_same (λ i. sum_up_to (touching v a i) n) (λ i. a i v + pick (eqb i v) (sum_up_to (a i) n) 0) n (λ i p q. touching_row v a w n i l h)
    ∙ sum_added (λ i. a i v + pick (eqb i v) (sum_up_to (a i) n) 0) (λ i. a i v) (λ i. pick (eqb i v) (sum_up_to (a i) n) 0) n (λ i p q. refl) in
    let column : sum_up_to (λ i. a i v) n ≡ sum_up_to (a v) n = sum_same (λ i. a i v) (a v) n (λ i p q. w.symmetric i v) in
    let here : sum_up_to (λ i. pick (eqb i v) (sum_up_to (a i) n) 0) n ≡ sum_up_to (a v) n =
    sum_up_to_one (λ i. pick (eqb i v) (sum_up_to (a i) n) 0) n v l h (λ i p q d. rw (ne_eqb i v d)) ∙ rw (eq-eqb v v refl) in
    omega arith

-- ---- row masks

-- the mark of rows at (i, j): bit j - 1 of row i
abbrev pub mark_at : List ℕ → ℕ → ℕ → ℕ
mark_at rows i j = bit (row rows i) (j - 1)

-- how many marks row i has
abbrev pub row_ones : List ℕ → ℕ → ℕ
row_ones rows i = ones (row rows i)

-- rows are symmetric, with nothing on the diagonal or past n
pub record Marks (n : ℕ) (rows : List ℕ) : Type 0 where
  pub mirrored : Mirrored (mark_at rows)
  pub past : (i j : ℕ) → n < j → mark_at rows i j ≡ 0

-- a well-formed graph's rows of edges are such rows
pub edges_marks : (g : Graph) → WellFormed g → Marks g.order g.edges
edges_marks g w =
    record {
      mirrored = record { symmetric = λ i j. omega (arith, w.symmetric i j); diagonal = λ i. omega (arith, w.no_loop i) };
      past = λ i j h. omega (arith, w.none_past i j h);
    }

-- and so are its rows of unknowns
pub unknowns_marks : (g : Graph) → WellFormed g → Marks g.order g.unknowns
unknowns_marks g w =
    record {
      mirrored = record { symmetric = λ i j. omega (arith, w.symmetric i j); diagonal = λ i. omega (arith, w.no_loop i) };
      past = λ i j h. omega (arith, w.none_past i j h);
    }

module _ (n : ℕ) (rows : List ℕ) (m : Marks n rows) where
  -- the ones of row i are its marks
  pub row_ones_sum : (i : ℕ) → row_ones rows i ≡ sum_up_to (mark_at rows i) n
  row_ones_sum i = ones_sum_low n (row rows i) (m.past i)

  -- a row past n has none
  pub row_ones_past : (i : ℕ) → n < i → row_ones rows i ≡ 0
  unfolding sum_up_to
  row_ones_past i h = ones_sum_low 0 (row rows i) (λ j l. m.mirrored.symmetric i j ∙ m.past j i h)

  -- the ones of all rows count each marked pair twice
  pub marked_pairs : 2 * sum_along (entry_of (mark_at rows)) (pairs n) ≡ sum_up_to (row_ones rows) n
  marked_pairs =
      pairs_sum (mark_at rows) m.mirrored n ∙ sum_same (λ i. sum_up_to (mark_at rows i) n) (row_ones rows) n (λ i p q. sym (row_ones_sum i))

  -- rows past n add nothing
  pub row_ones_further : (k : ℕ) → n ≤ k → sum_up_to (row_ones rows) k ≡ sum_up_to (row_ones rows) n
  row_ones_further k h = let e : k ≡ n + (k - n) = omega arith in ap (sum_up_to (row_ones rows)) e ∙ sum_up_to_past (row_ones rows) n (k - n) row_ones_past

-- ---- one entry

-- an entry whose bits are not both 1 is 1 where its edge bit is, and 2 where its unknown bit is
entry_tells : (b u : ℕ) → b < 2 → b + 2 * u ≤ 2 → (pick (eqb (b + 2 * u) 1) 1 0 ≡ b) × (pick (eqb (b + 2 * u) 2) 1 0 ≡ u)
unfolding pick
entry_tells zero zero p h = (refl, refl)
entry_tells zero (suc zero) p h = (refl, refl)
entry_tells zero (suc (suc u)) p h = absurd (omega arith)
entry_tells (suc zero) zero p h = (refl, refl)
entry_tells (suc zero) (suc u) p h = absurd (omega arith)
entry_tells (suc (suc b)) u p h = absurd (omega arith)

-- an entry is one of three
one_of_three : (e : ℕ) → e ≤ 2 → pick (eqb e 0) 1 0 + pick (eqb e 1) 1 0 + pick (eqb e 2) 1 0 ≡ 1
unfolding pick
one_of_three zero h = refl
one_of_three (suc zero) h = refl
one_of_three (suc (suc zero)) h = refl
one_of_three (suc (suc (suc e))) h = absurd (omega arith)

-- so the three counts along a list are its length
three_counts : (x : Pair → ℕ) → ((k : Pair) → x k ≤ 2) → (ks : List Pair)
    → count_of (λ k. eqb (x k) 0) ks + count_of (λ k. eqb (x k) 1) ks + count_of (λ k. eqb (x k) 2) ks ≡ length ks
unfolding count_of
three_counts x h [] = refl
three_counts x h (k ∷ ks) = omega (arith, one_of_three (x k) (h k), three_counts x h ks)

-- a pair that passes two tests counts as the second says where the first holds
passes_both : (t u : Bool) (b : ℕ) → pick u 1 0 ≡ b → pick (both t u) 1 0 ≡ pick t b 0
unfolding pick both
passes_both true u b e = e
passes_both false u b e = refl

-- ---- the counts of a graph

module _ (g : Graph) (w : WellFormed g) where
  -- the two marks of a pair say what its entry is
  tells : (k : Pair)
      → (pick (eqb (entry_at g k) 1) 1 0 ≡ entry_of (mark_at g.edges) k) × (pick (eqb (entry_at g k) 2) 1 0 ≡ entry_of (mark_at g.unknowns) k)
  tells k =
      entry_tells (mark_at g.edges k.row k.column) (mark_at g.unknowns k.row k.column) (omega arith) (w.not_both k.row k.column)

  -- where the marks of rows are the pairs with an entry, their ones count it twice, up to the order or further
  twice : (value : ℕ) (rows : List ℕ) → Marks g.order rows → ((k : Pair) → pick (eqb (entry_at g k) value) 1 0 ≡ entry_of (mark_at rows) k)
      → (n : ℕ) → g.order ≤ n → 2 * pairs_with g value ≡ sum_up_to (row_ones rows) n
  unfolding pairs_with
  twice value rows m h n l =
      ap (λ (x : ℕ). 2 * x) (count_sum (λ k. eqb (entry_at g k) value) (entry_of (mark_at rows)) h (pairs g.order))
      ∙ marked_pairs g.order rows m ∙ sym (row_ones_further g.order rows m n l)

  -- the ones of the rows of edges are twice the edges
  pub edges_twice : (n : ℕ) → g.order ≤ n → 2 * pairs_with g 1 ≡ sum_up_to (row_ones g.edges) n
  edges_twice = twice 1 g.edges (edges_marks g w) (λ k. (tells k).0)

  -- the ones of the rows of unknowns are twice the unknowns
  pub unknowns_twice : (n : ℕ) → g.order ≤ n → 2 * pairs_with g 2 ≡ sum_up_to (row_ones g.unknowns) n
  unknowns_twice = twice 2 g.unknowns (unknowns_marks g w) (λ k. (tells k).1)

  -- so half of the ones of all 32 rows
  pub edges_half : pairs_with g 1 ≡ sum_up_to (row_ones g.edges) 32 / 2
  edges_half = omega (arith, edges_twice 32 w.order_high)

  -- and likewise of the unknowns
  pub unknowns_half : pairs_with g 2 ≡ sum_up_to (row_ones g.unknowns) 32 / 2
  unknowns_half = omega (arith, unknowns_twice 32 w.order_high)

  -- non-edges, edges and unknowns are all the pairs
  pub all_counted : pairs_with g 0 + pairs_with g 1 + pairs_with g 2 ≡ pair_count g.order
  unfolding pairs_with
  all_counted = three_counts (entry_at g) (λ k. w.not_both k.row k.column) (pairs g.order) ∙ pairs_length g.order

  -- so the non-edges are what is left
  pub non_edges_left : pairs_with g 0 ≡ pair_count g.order - pairs_with g 1 - pairs_with g 2
  non_edges_left = omega (arith, all_counted)

  -- the edges at vertex v are the ones of its row
  pub edges_at_ones : (v : ℕ) → 1 ≤ v → v ≤ g.order → edges_at g v ≡ row_ones g.edges v
  unfolding edges_at touching
  edges_at_ones v l h =
      count_sum (λ k. both (either (eqb k.row v) (eqb k.column v)) (eqb (entry_at g k) 1)) (entry_of (touching v (mark_at g.edges)))
      (λ k. passes_both (either (eqb k.row v) (eqb k.column v)) (eqb (entry_at g k) 1) (entry_of (mark_at g.edges) k) (tells k).0)
      (pairs g.order)
      ∙ touching_sum v (mark_at g.edges) (edges_marks g w).mirrored g.order l h
      ∙ sym (row_ones_sum g.order g.edges (edges_marks g w) v)
