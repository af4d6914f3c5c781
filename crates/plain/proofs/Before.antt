-- The test tells which of two pairs is compared first, and which pairs come with one vertex more.
use Prim.Native.Nat.{ℕ, zero, suc, ◌+◌, ◌-◌, ◌≤◌, ◌<◌}
use native.Mathlib.Omega.{arith}
use mathlib.Core.Path.{◌≡◌, refl, sym, ap, ◌∙◌}
use mathlib.Core.Logic.{◌⊎◌, inl, inr, ◌↔◌, ⊎_elim}
use mathlib.Core.Bool.{Bool, true, false}
use mathlib.Core.List.Memᴰ
use mathlib.Core.List.{List, [], ◌∷◌, ◌++◌, append_assoc, Memᴰ}
use lib.Dec.{eqb, ltb}
use borrow.Author.Tests.{eqb-true, eq-eqb, ltb-true, lt-ltb, le-ltb}
use Rattle.laws.specs.Compared.{by_below, by_same}
use Rattle.laws.specs.Each.{Each}
use Rattle.laws.specs.Test.{both}
use Rattle.laws.specs.TestLaws.{fails, both_first, both_second, both_hold, first_fails, second_fails, one_holds, either_first, either_second}
use Rattle.walk.specs.Free.{Precedes}
use Rattle.schemes.specs.Free.{Ordered}
use Rattle.pairs.specs.Pairs.{Pair, pair, along_row, from_row, pairs}
use Rattle.pairs.proofs.PairLaws.{along_given, from_row_given, along_row_append, pairs_row_one}
use Rattle.plain.specs.Plain.{pair_of_two, judged_on, by_rows}
use Rattle.plain.specs.Before.{earlier_of, is_whole, row_before}
use Rattle.plain.proofs.Plain.{two_rising, two_falling, judged_on_short, judged_on_whole}

-- ---- sorted lists

-- each stands before all later ones
unfoldable pub Sorted : {P : Type 0} → (P → P → Bool) → List P → Type 0
Sorted before [] = Unit {0}
Sorted before (k ∷ ks) = Each (λ j. before k j ≡ true) ks × Sorted before ks

pub sorted_append : {P : Type 0} (before : P → P → Bool) (xs ys : List P) → Sorted before xs → Sorted before ys
    → ((j k : P) → Memᴰ j xs → Memᴰ k ys → before j k ≡ true) → Sorted before (xs ++ ys)
unfolding Sorted
sorted_append before [] ys a b across = b
sorted_append {P} before (x ∷ xs) ys a b across = (
  λ k m. ⊎_elim (λ (l : Memᴰ k xs). a.0 k l) (λ (r : Memᴰ k ys). across x k (Memᴰ.head refl) r) (Memᴰ.append_cases xs m),
  sorted_append before xs ys a.1 b (λ j k l r. across j k (Memᴰ.tail l) r),
)

-- a test that never holds both ways tells along a list sorted by it
pub sorted_precedes : {P : Type 0} (before : P → P → Bool) → ((j k : P) → before j k ≡ true → before k j ≡ true → ⊥) → (ks : List P) → Sorted before ks
    → Precedes (λ j. Memᴰ j ks) ks before
unfolding Sorted
sorted_precedes {P} before never ks s xs k ys e j m = (λ t. side t (Memᴰ.append_cases xs (rw e at m)), lower xs (rw e at s))
  where
    lower : (xs : List P) → Sorted before (xs ++ k ∷ ys) → Memᴰ j xs → before j k ≡ true
    lower [] s i = absurd (Memᴰ.not-nil i)
    lower (x ∷ xs) s i =
        ⊎_elim (λ (p : j ≡ x). rw p (s.0 k (Memᴰ.append_right xs (Memᴰ.head refl)))) (λ (l : Memᴰ j xs). lower xs s.1 l) (Memᴰ.cases_cons i)

    upper : (xs : List P) → Sorted before (xs ++ k ∷ ys) → Each (λ i. before k i ≡ true) ys
    upper [] s = s.0
    upper (x ∷ xs) s = upper xs s.1

    side : before j k ≡ true → Memᴰ j xs ⊎ Memᴰ j (k ∷ ys) → Memᴰ j xs
    side t (inl i) = i
    side t (inr (Memᴰ.head p)) = absurd (never j k t (rw (← p) (rw (← p) at t)))
    side t (inr (Memᴰ.tail i)) = absurd (never j k t (upper xs (rw e at s) j i))

-- ---- the tests

pub earlier_told : (a b c d : ℕ) → earlier_of a b c d ≡ true → (a < c) ⊎ ((a ≡ c) × (b < d))
unfolding earlier_of
earlier_told a b c d t =
    ⊎_elim (λ (x : ltb a c ≡ true). inl (ltb-true a c x))
    (λ (x : both (eqb a c) (ltb b d) ≡ true). inr (eqb-true a c (both_first (eqb a c) (ltb b d) x), ltb-true b d (both_second (eqb a c) (ltb b d) x)))
    (one_holds (ltb a c) (both (eqb a c) (ltb b d)) t)

pub earlier_first : (a b c d : ℕ) → a < c → earlier_of a b c d ≡ true
unfolding earlier_of
earlier_first a b c d l = either_first (ltb a c) (both (eqb a c) (ltb b d)) (lt-ltb a c l)

pub earlier_second : (a b c d : ℕ) → a ≡ c → b < d → earlier_of a b c d ≡ true
unfolding earlier_of
earlier_second a b c d e l = either_second (ltb a c) (both (eqb a c) (ltb b d)) (both_hold (eqb a c) (ltb b d) (eq-eqb a c e) (lt-ltb b d l))

pub earlier_never : (a b c d : ℕ) → earlier_of a b c d ≡ true → earlier_of c d a b ≡ true → ⊥
earlier_never a b c d s t = go (earlier_told a b c d s) (earlier_told c d a b t)
  where
    go : (a < c) ⊎ ((a ≡ c) × (b < d)) → (c < a) ⊎ ((c ≡ a) × (d < b)) → ⊥
    go (inl x) (inl y) = omega arith
    go (inl x) (inr y) = omega arith
    go (inr x) (inl y) = omega arith
    go (inr x) (inr y) = omega arith

pub whole_of : (j : Pair) → 1 ≤ j.row → 1 ≤ j.column → is_whole j ≡ true
unfolding is_whole
whole_of j r c = both_hold (ltb 0 j.row) (ltb 0 j.column) (lt-ltb 0 j.row r) (lt-ltb 0 j.column c)

pub whole_not : (j : Pair) → (j.row ≡ 0) ⊎ (j.column ≡ 0) → is_whole j ≡ false
unfolding is_whole
whole_not j (inl e) = first_fails (ltb 0 j.row) (ltb 0 j.column) (le-ltb 0 j.row (omega arith))
whole_not j (inr e) = second_fails (ltb 0 j.row) (ltb 0 j.column) (le-ltb 0 j.column (omega arith))

row_never : (j k : Pair) → row_before j k ≡ true → row_before k j ≡ true → ⊥
unfolding row_before
row_never j k s t = earlier_never j.row j.column k.row k.column (both_second (is_whole j) _ s) (both_second (is_whole k) _ t)

-- no pair comes before itself
pub row_itself : (k : Pair) → row_before k k ≡ false
row_itself k = fails (row_before k k) (λ t. row_never k k t t)

-- what the test tells
pub row_told : (j k : Pair) → row_before j k ≡ true → (j.row < k.row) ⊎ ((j.row ≡ k.row) × (j.column < k.column))
unfolding row_before
row_told j k t = earlier_told j.row j.column k.row k.column (both_second (is_whole j) _ t)

pub row_less : (j k : Pair) → 1 ≤ j.row → 1 ≤ j.column → j.row < k.row → row_before j k ≡ true
unfolding row_before
row_less j k r c l = both_hold (is_whole j) _ (whole_of j r c) (earlier_first j.row j.column k.row k.column l)

pub row_along : (j k : Pair) → 1 ≤ j.row → 1 ≤ j.column → j.row ≡ k.row → j.column < k.column → row_before j k ≡ true
unfolding row_before
row_along j k r c e l = both_hold (is_whole j) _ (whole_of j r c) (earlier_second j.row j.column k.row k.column e l)

-- a pair with a vertex 0 comes before none
pub blank_two : (u v : ℕ) → (u ≡ 0) ⊎ (v ≡ 0) → (pair_of_two u v).row ≡ 0
blank_two u v z =
    by_below u v (λ (l : u < v). ap (λ k. k.row) (two_rising u v l) ∙ low z l) (λ (l : v ≤ u). ap (λ k. k.row) (two_falling u v l) ∙ high z l)
  where
    low : (u ≡ 0) ⊎ (v ≡ 0) → u < v → u ≡ 0
    low (inl e) l = e
    low (inr e) l = absurd (omega arith)

    high : (u ≡ 0) ⊎ (v ≡ 0) → v ≤ u → v ≡ 0
    high (inl e) l = omega arith
    high (inr e) l = e

row_blank : (j k : Pair) → (j.row ≡ 0) ⊎ (j.column ≡ 0) → row_before j k ≡ false
unfolding row_before
row_blank j k z = first_fails (is_whole j) _ (whole_not j z)

-- the pair of a and b comes before (i, j) where one of them is below i, or is i and the other below j
pub two_row : (a b i j : ℕ) → 1 ≤ a → 1 ≤ b → (row_before (pair_of_two a b) (pair i j) ≡ true) ↔ ((a < i) ⊎ (b < i) ⊎ ((a ≡ i) × (b < j)) ⊎ ((b ≡ i) × (a < j)))
two_row a b i j la lb = by_below a b rising falling
  where
    rising : a < b → (row_before (pair_of_two a b) (pair i j) ≡ true) ↔ ((a < i) ⊎ (b < i) ⊎ ((a ≡ i) × (b < j)) ⊎ ((b ≡ i) × (a < j)))
    rising l = rw (two_rising a b l) (λ t. to (row_told (pair a b) (pair i j) t), from)
      where
        to : (a < i) ⊎ ((a ≡ i) × (b < j)) → (a < i) ⊎ (b < i) ⊎ ((a ≡ i) × (b < j)) ⊎ ((b ≡ i) × (a < j))
        to (inl h) = inl h
        to (inr h) = inr (inr (inl h))

        from : (a < i) ⊎ (b < i) ⊎ ((a ≡ i) × (b < j)) ⊎ ((b ≡ i) × (a < j)) → row_before (pair a b) (pair i j) ≡ true
        from (inl h) = row_less (pair a b) (pair i j) la lb h
        from (inr (inl h)) = row_less (pair a b) (pair i j) la lb (omega arith)
        from (inr (inr (inl h))) = row_along (pair a b) (pair i j) la lb h.0 h.1
        from (inr (inr (inr h))) = row_less (pair a b) (pair i j) la lb (omega (arith, h.0))

    falling : b ≤ a → (row_before (pair_of_two a b) (pair i j) ≡ true) ↔ ((a < i) ⊎ (b < i) ⊎ ((a ≡ i) × (b < j)) ⊎ ((b ≡ i) × (a < j)))
    falling l = rw (two_falling a b l) (λ t. to (row_told (pair b a) (pair i j) t), from)
      where
        to : (b < i) ⊎ ((b ≡ i) × (a < j)) → (a < i) ⊎ (b < i) ⊎ ((a ≡ i) × (b < j)) ⊎ ((b ≡ i) × (a < j))
        to (inl h) = inr (inl h)
        to (inr h) = inr (inr (inr h))

        from : (a < i) ⊎ (b < i) ⊎ ((a ≡ i) × (b < j)) ⊎ ((b ≡ i) × (a < j)) → row_before (pair b a) (pair i j) ≡ true
        from (inl h) = row_less (pair b a) (pair i j) lb la (omega arith)
        from (inr (inl h)) = row_less (pair b a) (pair i j) lb la h
        from (inr (inr (inl h))) = by_same b a (λ (e : b ≡ a). row_along (pair b a) (pair i j) lb la (omega (arith, h.0)) (omega (arith, h.1))) (λ d. row_less (pair b a) (pair i j) lb la (omega (arith, h.0)))
        from (inr (inr (inr h))) = row_along (pair b a) (pair i j) lb la h.0 h.1

-- ---- the pairs are sorted

along_sorted : (i j m : ℕ) → 1 ≤ i → 1 ≤ j → Sorted row_before (along_row i j m)
unfolding Sorted along_row
along_sorted i j zero l h = tt
along_sorted i j (suc m) l h = (
  λ k a. let b = along_given i (suc j) m k a in row_along (pair i j) k l h (sym b.same_row) (omega (arith, b.from_column)),
  along_sorted i (suc j) m l (omega arith),
)

from_sorted : (i m : ℕ) → 1 ≤ i → Sorted row_before (from_row i m)
unfolding Sorted from_row
from_sorted i zero l = tt
from_sorted i (suc m) l =
    sorted_append row_before (along_row i (suc i) (suc m)) (from_row (suc i) m) (along_sorted i (suc i) (suc m) l (omega arith)) (from_sorted (suc i) m (omega arith))
    (λ j k a b. let x = along_given i (suc i) (suc m) j a in let y = from_row_given (suc i) m k b in row_less j k (omega arith) (omega arith) (omega arith))

-- ---- so the test tells

pub rows_ordered : (n : ℕ) → Ordered (by_rows n) row_before
unfolding pairs
rows_ordered n =
    record {
      precedes = sorted_precedes row_before row_never (pairs n) (from_sorted 1 (n - 1) (omega arith));
      blank = λ u v z k m. row_blank (pair_of_two u v) k (inl (blank_two u v z));
    }

-- ---- one vertex more

-- shorter than n: the pair (1, k + 1)
pub judged_on_more : (n k : ℕ) → 1 ≤ k → suc k < n → judged_on n (suc k) ≡ judged_on n k ++ (pair 1 (suc k) ∷ [])
unfolding along_row
judged_on_more n k l h =
    let a : suc k - 1 ≡ (k - 1) + 1 = omega arith in
    let b : 2 + (k - 1) ≡ suc k = omega arith in
    judged_on_short n (suc k) h ∙ ap (along_row 1 2) a ∙ along_row_append 1 2 (k - 1) 1
    ∙ ap (λ (j : ℕ). along_row 1 2 (k - 1) ++ along_row 1 j 1) b ∙ ap (λ (js : List Pair). js ++ (pair 1 (suc k) ∷ [])) (sym (judged_on_short n k (omega arith)))

-- at length n: the pair (1, n), and then the rows after the first
pub judged_on_last : (n k : ℕ) → 1 ≤ k → suc k ≡ n → judged_on n (suc k) ≡ judged_on n k ++ (pair 1 (suc k) ∷ from_row 2 (n - 2))
unfolding along_row
judged_on_last n k l e =
    let a : n - 1 ≡ (k - 1) + 1 = omega arith in
    let b : 2 + (k - 1) ≡ suc k = omega arith in
    ap (judged_on n) e ∙ judged_on_whole n ∙ pairs_row_one n ∙ ap (λ (m : ℕ). along_row 1 2 m ++ from_row 2 (n - 2)) a
    ∙ ap (λ (js : List Pair). js ++ from_row 2 (n - 2)) (along_row_append 1 2 (k - 1) 1) ∙ append_assoc (along_row 1 2 (k - 1)) (along_row 1 (2 + (k - 1)) 1) (from_row 2 (n - 2))
    ∙ ap (λ (j : ℕ). along_row 1 2 (k - 1) ++ (along_row 1 j 1 ++ from_row 2 (n - 2))) b
    ∙ ap (λ (js : List Pair). js ++ (pair 1 (suc k) ∷ from_row 2 (n - 2))) (sym (judged_on_short n k (omega arith)))
