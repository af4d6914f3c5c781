-- Numbers as text.
use Rattle.std.specs.Prelude.{ℕ, zero, suc, ◌+◌, ◌/◌, ◌%◌, ◌^◌, List, [], ◌∷◌, ℤ, pos, negsuc, ltb}
use Rattle.laws.specs.Test.{pick}

-- the last k digits of n, the most significant first
unfoldable pub digits : ℕ → ℕ → List ℕ
digits zero n = []
digits (suc k) n = (48 + n / 10 ^ k % 10) ∷ digits k n

-- the fewest digits, k or more, that hold n; more than k at most
unfoldable pub fewest : ℕ → ℕ → ℕ → ℕ
fewest zero k n = k
fewest (suc more) k n = let rest = fewest more (suc k) n in pick (ltb n (10 ^ k)) k rest

-- a number below 10 ^ 10 in decimal
unfoldable pub decimal : ℕ → List ℕ
decimal n = digits (fewest 9 1 n) n

-- a whole number, with its sign where it is below 0
unfoldable pub signed : ℤ → List ℕ
signed (pos n) = decimal n
signed (negsuc k) = 45 ∷ decimal (suc k)
