-- Every second bit of a number.
use Rattle.std.specs.Prelude.{ℕ, ◌+◌, ◌*◌, ◌/◌, ◌%◌, ◌^◌}
use Rattle.std.specs.Int.Bits.{bit_and, bit_or}
use Rattle.laws.specs.Bit.{bit}

-- every second bit of x: the even ones, d = 0, or the odd ones, d = 1
unfoldable pub every : ℕ → ℕ → ℕ → ℕ
every d x k = bit x (2 * k + d)

-- of x moved up by s and down by 2 s what m marks
unfoldable pub fold : ℕ → ℕ → ℕ → ℕ
fold s m x = bit_and (bit_or (x * 2 ^ s % 2 ^ 64) (x / 2 ^ (2 * s))) m
