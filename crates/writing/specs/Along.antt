-- The entries along a row as one number.
use Rattle.std.specs.Prelude.{ℕ, zero, suc, ◌+◌, ◌*◌}
use Rattle.laws.specs.Bit.{bit}

-- the entries of t columns after column i of a row of edges and a row of unknowns, two bits each, the first the most significant
unfoldable pub along : ℕ → ℕ → ℕ → ℕ → ℕ
along e u i zero = 0
along e u i (suc t) = 4 * along e u i t + (bit e (i + t) + 2 * bit u (i + t))
