-- Where each part of the record of a graph of order n stands. Places are counted in bits from 0, and each part has its most significant bit first.
-- The order comes first, in 6 bits. Reading and writing both go by these places.
use Rattle.std.specs.Prelude.{ℕ, ◌+◌, ◌-◌, ◌*◌, ◌/◌}
use Rattle.pairs.specs.Pairs.{pair_count, number}

-- vertex v, from 2 on, has one bit: 1 if it starts a block
abbrev pub start_place : ℕ → ℕ
start_place v = 6 + (v - 2)

-- the pair with number m has two bits: 00 non-edge, 01 edge, 10 unknown, 11 refused
abbrev pub entry_place : ℕ → ℕ → ℕ
entry_place n m = 6 + (n - 1) + 2 * (m - 1)

-- the place of the start of vertex v
unfoldable pub begin : ℕ → ℕ
begin v = start_place v

-- the place of the entry of (i, j)
unfoldable pub cell : ℕ → ℕ → ℕ → ℕ
cell n i j = entry_place n (number n i j)

-- how many bits there are in all
unfoldable pub bit_count : ℕ → ℕ
bit_count n = 6 + (n - 1) + 2 * pair_count n

-- zero bits follow to the end of the byte; how many bytes there are then
unfoldable pub byte_count : ℕ → ℕ
byte_count n = (bit_count n + 7) / 8
