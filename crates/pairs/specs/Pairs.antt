-- The pairs i < j in row order, their numbers, and a count over them.
use Rattle.std.specs.Prelude.{ℕ, zero, suc, ◌+◌, ◌-◌, ◌*◌, ◌/◌, ◌≤◌, ◌<◌, Bool, List, [], ◌∷◌, ◌++◌, get_or}
use Rattle.laws.specs.Test.{pick}

pub record Pair : Type 0 where
  pub row : ℕ
  pub column : ℕ

abbrev pub pair : ℕ → ℕ → Pair
pair i j = record { row = i; column = j }

-- k is a pair of the vertices low..high
pub record Between (low high : ℕ) (k : Pair) : Type 0 where
  pub from_low : low ≤ k.row
  pub rising : k.row < k.column
  pub to_high : k.column ≤ high

-- (i, j), (i, j + 1), ..: m pairs
unfoldable pub along_row : ℕ → ℕ → ℕ → List Pair
along_row i j zero = []
along_row i j (suc m) = pair i j ∷ along_row i (suc j) m

-- the pairs of the rows i, i + 1, .., where m vertices come after i
unfoldable pub from_row : ℕ → ℕ → List Pair
from_row i zero = []
from_row i (suc m) = along_row i (suc i) (suc m) ++ from_row (suc i) m

-- all pairs of 1..n in row order
unfoldable pub pairs : ℕ → List Pair
pairs n = from_row 1 (n - 1)

-- how many pairs there are
abbrev pub pair_count : ℕ → ℕ
pair_count n = n * (n - 1) / 2

-- the number of a pair, from 1
abbrev pub number : ℕ → ℕ → ℕ → ℕ
number n i j = (i - 1) * (2 * n - i) / 2 + (j - i)

abbrev pub number_of : ℕ → Pair → ℕ
number_of n k = number n k.row k.column

-- the pair with number m
abbrev pub pair_of : ℕ → ℕ → Pair
pair_of n m = get_or (pairs n) (m - 1) (pair 0 0)

-- how many of the pairs pass the test
unfoldable pub count_of : (Pair → Bool) → List Pair → ℕ
count_of f [] = 0
count_of f (k ∷ ks) = pick (f k) 1 0 + count_of f ks
