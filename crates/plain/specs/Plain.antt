-- Plain pairs, where the order of two vertices makes no difference, and their comparison in row order and in column order.
use Rattle.std.specs.Prelude.{ℕ, ◌-◌, Bool, List, eqb, ltb}
use Rattle.laws.specs.Test.{both, pick}
use Rattle.beginnings.specs.Beginning.{at}
use Rattle.schemes.specs.Scheme.{Scheme}
use Rattle.pairs.specs.Pairs.{Pair, pair, along_row, pairs}
use Rattle.pairs.specs.Columns.{columns}

unfoldable pub same_pair : Pair → Pair → Bool
same_pair j k = both (eqb j.row k.row) (eqb j.column k.column)

-- the pair of the vertices u and v, the smaller one first
unfoldable pub pair_of_two : ℕ → ℕ → Pair
pair_of_two u v = pick (ltb u v) (pair u v) (pair v u)

-- the image of the pair (i, j) under p: the pair {p(i), p(j)}
abbrev pub image : List ℕ → Pair → Pair
image p k = pair_of_two (at p k.row) (at p k.column)

-- plain pairs compared along ks, with the pairs on which a beginning of each length is judged
abbrev pub plain : List Pair → (ℕ → List Pair) → Scheme Pair
plain ks on = record { same = same_pair; first = λ k. k.row; second = λ k. k.column; of_two = pair_of_two; pairs = ks; judged_on = on }

-- ---- row order

-- a beginning of length k, shorter than n, is judged on the pairs (1, 2) up to (1, k), and one of length n on all pairs
unfoldable pub judged_on : ℕ → ℕ → List Pair
judged_on n k = pick (ltb k n) (along_row 1 2 (k - 1)) (pairs n)

abbrev pub by_rows : ℕ → Scheme Pair
by_rows n = plain (pairs n) (judged_on n)

-- ---- column order

-- a beginning of length k is judged on all pairs of 1..k
abbrev pub by_columns : ℕ → Scheme Pair
by_columns n = plain (columns n) columns

-- ---- the order that a mode names: 2 is by columns, and any other number by rows

-- the pairs of 1..n as they are compared
unfoldable pub compared_in : (mode : ℕ) → ℕ → List Pair
compared_in mode n = pick (eqb mode 2) (columns n) (pairs n)

-- those on which a beginning of length k is judged
unfoldable pub judged_in : (mode : ℕ) → ℕ → ℕ → List Pair
judged_in mode n k = pick (eqb mode 2) (columns k) (judged_on n k)

abbrev pub by_mode : (mode : ℕ) → ℕ → Scheme Pair
by_mode mode n = plain (compared_in mode n) (judged_in mode n)
