-- The record of a graph: the bit at each place, and the bytes that hold these bits.
use Rattle.std.specs.Prelude.{ℕ, ◌+◌, ◌-◌, ◌*◌, ◌/◌, ◌%◌, List, ltb}
use Rattle.laws.specs.Test.{pick}
use Rattle.laws.specs.Bit.{bit}
use Rattle.laws.specs.UpTo.{list_up_to}
use Rattle.laws.specs.Num.{num}
use Rattle.graph.specs.declared.Graph.{Graph}
use Rattle.rows.specs.Rows.{start_at}
use Rattle.pairs.specs.Pairs.{pair_of}
use Rattle.graph.specs.Counts.{entry_at}
use Rattle.record.specs.Layout.{start_place, entry_place, bit_count, byte_count}

-- bit t of the entries, counted from the first bit of the first pair
unfoldable pub entry_bit : Graph → ℕ → ℕ
entry_bit g t = bit (entry_at g (pair_of g.order (t / 2 + 1))) (1 - t % 2)

-- the bit at place k of the record of g
unfoldable pub record_bit : Graph → ℕ → ℕ
record_bit g k =
    pick (ltb k (start_place 2)) (bit g.order (5 - k))
    (pick (ltb k (entry_place g.order 1)) (start_at g.starts (k - start_place 2 + 2))
    (pick (ltb k (bit_count g.order)) (entry_bit g (k - entry_place g.order 1))
    0))

-- byte k of the record of g, from 1
unfoldable pub record_byte : Graph → ℕ → ℕ
record_byte g k = num (record_bit g) (8 * (k - 1)) 8

-- the record of g
unfoldable pub record_of : Graph → List ℕ
record_of g = list_up_to (record_byte g) (byte_count g.order)
