-- The pairs that are compared after one, in the order that a mode names.
use Rattle.std.specs.Prelude.{ℕ, zero, suc, ◌-◌, List, [], ◌∷◌, ◌++◌, eqb, Option, Some, None}
use Rattle.laws.specs.Test.{pick}
use Rattle.pairs.specs.Pairs.{Pair, pair, along_row, from_row}
use Rattle.turns.specs.declared.spot.Spot.{Spot}

-- (i, j), (i + 1, j), ..: m pairs
unfoldable pub down_from : ℕ → ℕ → ℕ → List Pair
down_from i j zero = []
down_from i j (suc m) = pair i j ∷ down_from (suc i) j m

-- the pairs of the columns j, j + 1, ..: m columns
unfoldable pub columns_from : ℕ → ℕ → List Pair
columns_from j zero = []
columns_from j (suc m) = down_from 1 j (j - 1) ++ columns_from (suc j) m

-- the pairs after k by rows: those of its row, and then the rows after it
unfoldable pub rows_after : ℕ → Pair → List Pair
rows_after n k = along_row k.row (suc k.column) (n - k.column) ++ from_row (suc k.row) (n - suc k.row)

-- and by columns: those of its column, and then the columns after it
unfoldable pub columns_after : ℕ → Pair → List Pair
columns_after n k = down_from (suc k.row) k.column (k.column - suc k.row) ++ columns_from (suc k.column) (n - k.column)

-- in the order that a mode names
unfoldable pub pairs_after : (mode : ℕ) → ℕ → Pair → List Pair
pairs_after mode n k = pick (eqb mode 2) (columns_after n k) (rows_after n k)

-- k and those after it, or none where its row is 0
unfoldable pub starting_at : (Pair → List Pair) → Pair → List Pair
starting_at after k = pick (eqb k.row 0) [] (k ∷ after k)

-- the pair that a spot is, or (0, 0) for none
abbrev pub spot_pair : Option Spot → Pair
spot_pair None = pair 0 0
spot_pair (Some s) = pair s.row s.column
