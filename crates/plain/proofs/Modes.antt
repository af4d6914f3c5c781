-- What holds in the order of every mode: each is a lawful scheme, its test tells which pair is compared first, and all compare the same
-- pairs.
use Prim.Native.Nat.{ℕ}
use mathlib.Core.Path.{◌≡◌, ap}
use mathlib.Core.Bool.{Bool, true, false}
use mathlib.Core.List.{Memᴰ}
use lib.Dec.{eqb}
use borrow.Author.Tests.{eq-eqb, ne_eqb}
use Rattle.laws.specs.Test.{pick}
use Rattle.laws.specs.Each.{Each}
use Rattle.schemes.specs.Scheme.{Lawful}
use Rattle.schemes.specs.Free.{Ordered}
use Rattle.pairs.specs.Pairs.{Pair, Between, pairs}
use Rattle.pairs.specs.Columns.{columns}
use Rattle.pairs.proofs.PairLaws.{pairs_given, pairs_has}
use Rattle.pairs.proofs.ColumnLaws.{columns_given, columns_has}
use Rattle.plain.specs.Plain.{plain, judged_on, by_rows, by_columns, compared_in, judged_in, by_mode}
use Rattle.plain.specs.Before.{row_before, column_before, before_in}
use Rattle.plain.proofs.Plain.{rows_lawful}
use Rattle.plain.proofs.Before.{rows_ordered, row_itself}
use Rattle.plain.proofs.Columns.{columns_lawful, columns_ordered, column_itself}

-- 2 is by columns, and any other number by rows
pub by_columns_lem : (mode : ℕ) → mode ≡ 2 → (n : ℕ) → by_mode mode n ≡ by_columns n
unfolding compared_in judged_in pick
by_columns_lem mode e n = ap (λ (b : Bool). plain (pick b (columns n) (pairs n)) (λ k. pick b (columns k) (judged_on n k))) (eq-eqb mode 2 e)

pub by_rows_lem : (mode : ℕ) → (mode ≡ 2 → ⊥) → (n : ℕ) → by_mode mode n ≡ by_rows n
unfolding compared_in judged_in pick
by_rows_lem mode d n = ap (λ (b : Bool). plain (pick b (columns n) (pairs n)) (λ k. pick b (columns k) (judged_on n k))) (ne_eqb mode 2 d)

module _ (mode : ℕ) where
  pub mode_lawful : (n : ℕ) → Lawful n (by_mode mode n)
  unfolding compared_in judged_in pick
  mode_lawful n = at (eqb mode 2)
    where
      at : (b : Bool) → Lawful n (plain (pick b (columns n) (pairs n)) (λ k. pick b (columns k) (judged_on n k)))
      at true = columns_lawful n
      at false = rows_lawful n

  pub mode_ordered : (n : ℕ) → Ordered (by_mode mode n) (before_in mode)
  unfolding compared_in judged_in before_in pick
  mode_ordered n = at (eqb mode 2)
    where
      at : (b : Bool) → Ordered (plain (pick b (columns n) (pairs n)) (λ k. pick b (columns k) (judged_on n k))) (λ j k. pick b (column_before j k) (row_before j k))
      at true = columns_ordered n
      at false = rows_ordered n

  -- the pairs that are compared are those of 1..n
  pub mode_given : (n : ℕ) → Each (Between 1 n) (compared_in mode n)
  unfolding compared_in pick
  mode_given n = at (eqb mode 2)
    where
      at : (b : Bool) → Each (Between 1 n) (pick b (columns n) (pairs n))
      at true = columns_given n
      at false = pairs_given n

  pub mode_has : (n : ℕ) (k : Pair) → Between 1 n k → Memᴰ k (compared_in mode n)
  unfolding compared_in pick
  mode_has n k h = at (eqb mode 2)
    where
      at : (b : Bool) → Memᴰ k (pick b (columns n) (pairs n))
      at true = columns_has n k h
      at false = pairs_has n k h

  -- so they are those that have numbers
  pub mode_numbered : (n : ℕ) → Each (λ k. Memᴰ k (pairs n)) (compared_in mode n)
  mode_numbered n k m = pairs_has n k (mode_given n k m)

  pub numbered_compared : (n : ℕ) → Each (λ k. Memᴰ k (compared_in mode n)) (pairs n)
  numbered_compared n k m = mode_has n k (pairs_given n k m)

  -- no pair comes before itself
  pub mode_itself : (k : Pair) → before_in mode k k ≡ false
  unfolding before_in pick
  mode_itself k = at (eqb mode 2)
    where
      at : (b : Bool) → pick b (column_before k k) (row_before k k) ≡ false
      at true = column_itself k
      at false = row_itself k
