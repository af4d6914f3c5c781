-- Which of two pairs is compared first.
use Rattle.std.specs.Prelude.{ℕ, Bool, eqb, ltb}
use Rattle.laws.specs.Test.{both, either, pick}
use Rattle.pairs.specs.Pairs.{Pair}

-- (a, b) is before (c, d): by the first numbers, then by the second ones
unfoldable pub earlier_of : ℕ → ℕ → ℕ → ℕ → Bool
earlier_of a b c d = either (ltb a c) (both (eqb a c) (ltb b d))

-- no vertex of the pair is 0: where a vertex without a place has place 0, such a pair comes before none
unfoldable pub is_whole : Pair → Bool
is_whole j = both (ltb 0 j.row) (ltb 0 j.column)

-- j comes before k in row order: by the smaller vertices, then by the larger ones
unfoldable pub row_before : Pair → Pair → Bool
row_before j k = both (is_whole j) (earlier_of j.row j.column k.row k.column)

-- and in column order: by the larger vertices, then by the smaller ones
unfoldable pub column_before : Pair → Pair → Bool
column_before j k = both (is_whole j) (earlier_of j.column j.row k.column k.row)

-- in the order that a mode names
unfoldable pub before_in : (mode : ℕ) → Pair → Pair → Bool
before_in mode j k = pick (eqb mode 2) (column_before j k) (row_before j k)
