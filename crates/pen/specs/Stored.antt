-- Bytes that are stored.
use Rattle.std.specs.Prelude.{ℕ, zero, suc, ◌+◌, ◌-◌, ◌*◌, ◌/◌, ◌%◌, ◌^◌, List, set}

-- the buffer with the first t bytes of a word of eight stored from a place on
unfoldable pub stored : List ℕ → ℕ → ℕ → ℕ → List ℕ
stored o at word zero = o
stored o at word (suc t) = set (stored o at word t) (at + t) (word / 2 ^ (56 - 8 * t) % 256)
