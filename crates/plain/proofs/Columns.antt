-- Plain pairs in column order: a lawful scheme, the test that tells which of two is compared first, and the pairs that come with one
-- vertex more.
use Prim.Native.Nat.{ℕ, zero, suc, ◌≤◌, ◌<◌}
use native.Mathlib.Omega.{arith}
use mathlib.Core.Path.{◌≡◌, refl, ap}
use mathlib.Core.Logic.{◌⊎◌, inl}
use mathlib.Core.Bool.{true, false}
use mathlib.Core.List.Memᴰ
use mathlib.Core.List.{[], ◌∷◌, ◌++◌}
use Rattle.laws.specs.TestLaws.{fails, both_second, both_hold, first_fails}
use Rattle.schemes.specs.Scheme.{Lawful}
use Rattle.schemes.specs.Free.{Ordered}
use Rattle.pairs.specs.Pairs.{Pair, pair}
use Rattle.pairs.specs.Columns.{down_column, columns}
use Rattle.pairs.proofs.ColumnLaws.{down_given, columns_given, columns_has, columns_once, columns_first}
use Rattle.plain.specs.Plain.{pair_of_two, by_columns}
use Rattle.plain.specs.Before.{is_whole, column_before}
use Rattle.plain.proofs.Plain.{plain_lawful}
use Rattle.plain.proofs.Before.{Sorted, sorted_append, sorted_precedes, earlier_told, earlier_first, earlier_second, earlier_never, whole_of, whole_not, blank_two}

pub columns_lawful : (n : ℕ) → Lawful n (by_columns n)
columns_lawful n =
    plain_lawful n (columns n) columns (columns_once n) (columns_given n) (columns_has n) refl
    (λ k l h.
    let r = columns_first k n (omega arith) in
    record {
      rest = r.0;
      split = r.1;
      first_within = λ j m. let b = columns_given k j m in omega arith;
      second_within = λ j m. let b = columns_given k j m in b.to_high;
    })

-- ---- the test

column_never : (j k : Pair) → column_before j k ≡ true → column_before k j ≡ true → ⊥
unfolding column_before
column_never j k s t = earlier_never j.column j.row k.column k.row (both_second (is_whole j) _ s) (both_second (is_whole k) _ t)

-- no pair comes before itself
pub column_itself : (k : Pair) → column_before k k ≡ false
column_itself k = fails (column_before k k) (λ t. column_never k k t t)

-- what the test tells
pub column_told : (j k : Pair) → column_before j k ≡ true → (j.column < k.column) ⊎ ((j.column ≡ k.column) × (j.row < k.row))
unfolding column_before
column_told j k t = earlier_told j.column j.row k.column k.row (both_second (is_whole j) _ t)

pub column_less : (j k : Pair) → 1 ≤ j.row → 1 ≤ j.column → j.column < k.column → column_before j k ≡ true
unfolding column_before
column_less j k r c l = both_hold (is_whole j) _ (whole_of j r c) (earlier_first j.column j.row k.column k.row l)

pub column_down : (j k : Pair) → 1 ≤ j.row → 1 ≤ j.column → j.column ≡ k.column → j.row < k.row → column_before j k ≡ true
unfolding column_before
column_down j k r c e l = both_hold (is_whole j) _ (whole_of j r c) (earlier_second j.column j.row k.column k.row e l)

pub column_blank : (j k : Pair) → (j.row ≡ 0) ⊎ (j.column ≡ 0) → column_before j k ≡ false
unfolding column_before
column_blank j k z = first_fails (is_whole j) _ (whole_not j z)

-- ---- the pairs are sorted by it

down_sorted : (j m : ℕ) → 1 ≤ j → Sorted column_before (down_column j m)
unfolding Sorted down_column
down_sorted j zero l = tt
down_sorted j (suc m) l =
    sorted_append column_before (down_column j m) (pair (suc m) j ∷ []) (down_sorted j m l) (λ k i. absurd (Memᴰ.not-nil i), tt)
    (λ i k a b.
    let d = down_given j m i a in
    let r : k.row ≡ suc m = ap (λ x. x.row) (Memᴰ.eq_of_singleton b) in
    let c : k.column ≡ j = ap (λ x. x.column) (Memᴰ.eq_of_singleton b) in
    column_down i k d.low (omega arith) (omega arith) (omega arith))

columns_sorted : (n : ℕ) → Sorted column_before (columns n)
unfolding Sorted columns
columns_sorted zero = tt
columns_sorted (suc n) =
    sorted_append column_before (columns n) (down_column (suc n) n) (columns_sorted n) (down_sorted (suc n) n (omega arith))
    (λ j k a b. let x = columns_given n j a in let y = down_given (suc n) n k b in column_less j k x.from_low (omega arith) (omega arith))

pub columns_ordered : (n : ℕ) → Ordered (by_columns n) column_before
columns_ordered n =
    record {
      precedes = sorted_precedes column_before column_never (columns n) (columns_sorted n);
      blank = λ u v z k m. column_blank (pair_of_two u v) k (inl (blank_two u v z));
    }

-- one vertex more: its column
pub columns_more : (k : ℕ) → columns (suc k) ≡ columns k ++ down_column (suc k) k
unfolding columns
columns_more k = refl
