-- What the code's steps down a column come to, one law for each answer.
use Prim.Native.Nat.{ℕ, zero, suc, ◌+◌, ◌-◌, ◌≤◌, ◌<◌}
use native.Mathlib.Omega.{arith}
use mathlib.Core.Path.{◌≡◌, refl, sym, ap, ◌∙◌}
use mathlib.Core.Logic.{inl, inr}
use mathlib.Core.Bool.{Bool, true, false, not}
use mathlib.Core.List.{List, [], ◌∷◌, ◌++◌}
use lib.Dec.{eqb}
use borrow.Author.Tests.{eq-eqb, ne_eqb, lt-ltb, le-ltb}
use Rattle.laws.specs.Test.{pick}
use Rattle.laws.specs.Bit.{bit}
use Rattle.laws.specs.Compared.{by_same}
use Rattle.words.specs.Placed.{row}
use Rattle.arrangements.specs.Arrangement.{at}
use Rattle.pairs.specs.Pairs.{Pair, pair}
use Rattle.pairs.specs.Columns.{down_column}
use Rattle.plain.specs.Plain.{same_pair, pair_of_two}
use Rattle.plain.specs.Before.{column_before, before_in}
use Rattle.plain.proofs.Plain.{two_flip}
use Rattle.plain.proofs.Before.{blank_two}
use Rattle.plain.proofs.Columns.{column_blank}
use Rattle.turns.specs.Turns.{count_by, turn_by, walk_code, Within}
use Rattle.turns.proofs.CodeTurns.{count_one, count_none}
use Rattle.column_walks.specs.Columns.{place_held, turn_down, turn_in_column, tried_down}

-- ---- a place, and whether a source comes before

module _ (q : List ℕ) (used v : ℕ) where
  pub held_used : bit used (v - 1) ≡ 1 → (r : ℕ) → r ≡ at q v → r ≡ place_held used q v
  unfolding place_held pick
  held_used h r e = rw (eq-eqb (bit used (v - 1)) 1 h) e

  pub held_none : (bit used (v - 1) ≡ 1 → ⊥) → 0 ≡ place_held used q v
  unfolding place_held pick
  held_none h = rw (ne_eqb (bit used (v - 1)) 1 h)

module _ (s t i k : ℕ) where
  pub first_blank : s ≡ 0 → false ≡ column_before (pair_of_two s t) (pair i k)
  first_blank z = sym (column_blank (pair_of_two s t) (pair i k) (inl (blank_two s t (inl z))))

  pub last_blank : t ≡ 0 → false ≡ column_before (pair_of_two s t) (pair i k)
  last_blank z = sym (column_blank (pair_of_two s t) (pair i k) (inl (blank_two s t (inr z))))

  pub both_placed : (b : Bool) → b ≡ before_in 2 (pair_of_two s t) (pair i k) → b ≡ column_before (pair_of_two s t) (pair i k)
  unfolding before_in pick
  both_placed b e = e

-- ---- one pair

-- how an unknown entry counts at its own place
module _ (e w m i k used s t : ℕ) (q : List ℕ) (b : Bool) (h : bit w m ≡ 0 → ⊥) (ps : s ≡ place_held used q i) (is : b ≡ column_before (pair_of_two s t) (pair i k)) where
  told : column_before (pair_of_two (place_held used q i) t) (pair i k) ≡ b
  told = sym (is ∙ rw ps)

  pub down_counts : b ≡ true → 1 ≡ count_by e (bit w m) (column_before (pair_of_two (place_held used q i) t) (pair i k))
  down_counts y = count_one e w m _ h (told ∙ y)

  pub down_none : b ≡ false → 0 ≡ count_by e (bit w m) (column_before (pair_of_two (place_held used q i) t) (pair i k))
  down_none y = count_none e w m _ h (told ∙ y)

-- what the pair does
pub turn_down_is : (p q : List ℕ) (ones doubts marks hidden used i k u v t a b r : ℕ) → u ≡ at p i
    → a ≡ count_by (bit ones (i - 1)) (bit doubts (i - 1)) (column_before (pair_of_two (place_held used q i) t) (pair i k))
    → b ≡ count_by (bit marks (u - 1)) (bit hidden (u - 1)) (not (before_in 2 (pair_of_two v u) (pair i k)))
    → r ≡ turn_by a b (same_pair (pair_of_two u v) (pair i k)) → r ≡ turn_down ones doubts marks hidden i k (at p i) v (place_held used q i) t
unfolding turn_down before_in pick
turn_down_is p q ones doubts marks hidden used i k u v t a b r pu pa pb h = h ∙ rw (pa, pb, two_flip v u, pu)

-- and by the rows
pub column_turn_is : (e w p q : List ℕ) (used i k v ones doubts marks hidden t r : ℕ) → v ≡ at p k → ones ≡ row e k → doubts ≡ row w k → marks ≡ row e v → hidden ≡ row w v → t ≡ place_held used q k
    → r ≡ turn_down ones doubts marks hidden i k (at p i) v (place_held used q i) t → r ≡ turn_in_column e w p q used (pair i k)
unfolding turn_in_column
column_turn_is e w p q used i k v ones doubts marks hidden t r pv po pd pm ph pt h = h ∙ rw (po, pd, pm, ph, pt, pv)

-- ---- down the column

-- the walk down m pairs, and one more
walk_more : (t : Pair → ℕ) (xs : List Pair) (k : Pair) → walk_code t (xs ++ k ∷ []) ≡ pick (eqb (walk_code t xs) 0) (t k) (walk_code t xs)
unfolding walk_code pick
walk_more t [] k = by_same (t k) 0 (λ (z : t k ≡ 0). rw (eq-eqb (t k) 0 z) (sym z)) (λ n. rw (ne_eqb (t k) 0 n))
walk_more t (x ∷ xs) k = by_same (t x) 0 (λ (z : t x ≡ 0). rw (eq-eqb (t x) 0 z) (walk_more t xs k)) (λ n. rw (ne_eqb (t x) 0 n, ne_eqb (t x) 0 n))

module _ (t : Pair → ℕ) (j : ℕ) where
  -- where it ends within the first m pairs, it ends so
  walk_ended : (m n : ℕ) → m ≤ n → (walk_code t (down_column j m) ≡ 0 → ⊥) → walk_code t (down_column j n) ≡ walk_code t (down_column j m)
  unfolding down_column pick
  walk_ended m zero l h = let e : 0 ≡ m = omega arith in ap (λ (x : ℕ). walk_code t (down_column j x)) e
  walk_ended m (suc n) l h =
      by_same m (suc n) (λ (e : m ≡ suc n). ap (λ (x : ℕ). walk_code t (down_column j x)) (sym e))
      (λ d.
      let s = walk_ended m n (omega arith) h in
      walk_more t (down_column j n) (pair (suc n) j) ∙ (rw (ne_eqb (walk_code t (down_column j n)) 0 (λ z. h (sym s ∙ z))) s))

module _ (e w p q : List ℕ) (used k i code : ℕ) (low : 1 ≤ i) (l : i < k) (so_far : walk_code (turn_in_column e w p q used) (down_column k (i - 1)) ≡ 0)
    (here : code ≡ turn_in_column e w p q used (pair i k)) where
  abbrev turn : Pair → ℕ
  turn = turn_in_column e w p q used

  one_more : walk_code turn (down_column k i) ≡ code
  unfolding down_column pick
  one_more =
      let next : i ≡ suc (i - 1) = omega arith in
      let last : suc (i - 1) ≡ i = omega arith in
      ap (λ (m : ℕ). walk_code turn (down_column k m)) next ∙ walk_more turn (down_column k (i - 1)) (pair (suc (i - 1)) k)
      ∙ rw (eq-eqb (walk_code turn (down_column k (i - 1))) 0 so_far) (ap (λ (m : ℕ). turn (pair m k)) last ∙ sym here)

  pub down_goes_on : code ≡ 0 → walk_code (turn_in_column e w p q used) (down_column k (i + 1 - 1)) ≡ 0
  down_goes_on z = let same : i + 1 - 1 ≡ i = omega arith in ap (λ (m : ℕ). walk_code turn (down_column k m)) same ∙ one_more ∙ z

  pub down_ends : (code ≡ 0 → ⊥) → code ≡ walk_code (turn_in_column e w p q used) (down_column k (k - 1))
  down_ends n = sym (walk_ended turn k i (k - 1) (omega arith) (λ z. n (sym one_more ∙ z)) ∙ one_more)

pub down_begins : (e w p q : List ℕ) (used k : ℕ) → walk_code (turn_in_column e w p q used) (down_column k (1 - 1)) ≡ 0
unfolding down_column walk_code
down_begins e w p q used k = refl

pub down_over : (e w p q : List ℕ) (used k i : ℕ) → i ≤ k → k ≤ i → walk_code (turn_in_column e w p q used) (down_column k (i - 1)) ≡ 0 → 0 ≡ walk_code (turn_in_column e w p q used) (down_column k (k - 1))
down_over e w p q used k i l n h = let same : k ≡ i = omega arith in sym (ap (λ (m : ℕ). walk_code (turn_in_column e w p q used) (down_column k (m - 1))) same ∙ h)

-- the vertices of a path, at its last place and before it
module _ (i k : ℕ) (p : List ℕ) (l : 1 ≤ i) (m : i < k) (h : Within k p) where
  pub last_low : (v : ℕ) → v ≡ at p k → 1 ≤ v
  last_low v e = rw e (h.low k (omega arith) (omega arith))

  pub last_high : (v : ℕ) → v ≡ at p k → v ≤ 32
  last_high v e = rw e (h.high k (omega arith) (omega arith))

  pub above_low : 1 ≤ at p i
  above_low = h.low i l (omega arith)

  pub above_high : at p i ≤ 32
  above_high = h.high i l (omega arith)

-- ---- what trying comes to

module _ (down k n c : ℕ) (h : c ≡ down) where
  -- the end of a walk that ends
  pub tried_ended : (c ≡ 0 → ⊥) → c ≡ tried_down down k n
  unfolding tried_down pick
  tried_ended d = h ∙ rw (ne_eqb down 0 (λ z. d (h ∙ z)))

  -- with places left, any
  pub tried_short : k < n → c ≡ tried_down down k n
  unfolding tried_down pick
  tried_short l = by_same c 0 (λ (z : c ≡ 0). z ∙ rw (eq-eqb down 0 (sym h ∙ z), lt-ltb k n l)) tried_ended

-- with none left k is n: an open one is not won
module _ (e w p q : List ℕ) (used k n c : ℕ) (above : k ≤ n) (l : n ≤ k) (h : c ≡ walk_code (turn_in_column e w p q used) (down_column n (n - 1))) where
  last : c ≡ walk_code (turn_in_column e w p q used) (down_column k (k - 1))
  last = let same : n ≡ k = omega arith in h ∙ ap (λ (m : ℕ). walk_code (turn_in_column e w p q used) (down_column m (m - 1))) same

  pub last_open : c ≡ 0 → 1 ≡ tried_down (walk_code (turn_in_column e w p q used) (down_column k (k - 1))) k n
  unfolding tried_down pick
  last_open z = rw (eq-eqb (walk_code (turn_in_column e w p q used) (down_column k (k - 1))) 0 (sym last ∙ z), le-ltb k n l)

  pub last_ended : (c ≡ 0 → ⊥) → c ≡ tried_down (walk_code (turn_in_column e w p q used) (down_column k (k - 1))) k n
  last_ended = tried_ended (walk_code (turn_in_column e w p q used) (down_column k (k - 1))) k n c last

-- the path has a vertex at each place
pub last_within : (k n : ℕ) (p : List ℕ) → k ≤ n → n ≤ k → Within k p → Within n p
last_within k n p a l h = let same : k ≡ n = omega arith in rw same at h

-- in either mode
module _ (mode x y r : ℕ) where
  pub tried_by_columns : mode ≡ 2 → r ≡ x → r ≡ pick (eqb mode 2) x y
  unfolding pick
  tried_by_columns e h = rw (eq-eqb mode 2 e) h

  pub tried_by_rows : (mode ≡ 2 → ⊥) → r ≡ y → r ≡ pick (eqb mode 2) x y
  unfolding pick
  tried_by_rows n h = rw (ne_eqb mode 2 n) h
