-- The pairs i < j in column order.
use Rattle.std.specs.Prelude.{ℕ, zero, suc, List, [], ◌∷◌, ◌++◌}
use Rattle.pairs.specs.Pairs.{Pair, pair}

-- (1, j), (2, j), ..: m pairs
unfoldable pub down_column : ℕ → ℕ → List Pair
down_column j zero = []
down_column j (suc m) = down_column j m ++ (pair (suc m) j ∷ [])

-- all pairs of 1..n in column order: (1, 2), (1, 3), (2, 3), (1, 4), ..
unfoldable pub columns : ℕ → List Pair
columns zero = []
columns (suc n) = columns n ++ down_column (suc n) n
