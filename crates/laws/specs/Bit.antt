-- Bits of a word.
use Rattle.std.specs.Prelude.{ℕ, ◌+◌, ◌-◌, ◌*◌, ◌/◌, ◌%◌, ◌^◌}

-- bit k of w, the lowest at 0
abbrev pub bit : ℕ → ℕ → ℕ
bit w k = w / 2 ^ k % 2

-- w with bit k made b
unfoldable pub with_bit : ℕ → ℕ → ℕ → ℕ
with_bit w k b = w - bit w k * 2 ^ k + b * 2 ^ k
