-- The bits of bytes.
use Rattle.std.specs.Prelude.{ℕ, ◌-◌, ◌/◌, ◌%◌, ◌^◌, List, get_or}

-- the bit at place k of the bytes s, the most significant of a byte first; 0 past their end
unfoldable pub bit_of : List ℕ → ℕ → ℕ
bit_of s k = get_or s (k / 8) 0 / 2 ^ (7 - k % 8) % 2
