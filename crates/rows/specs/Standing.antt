-- The test of a graph's rows beside their columns.
use Rattle.std.specs.Prelude.{ℕ, ◌-◌, ◌^◌, Bool, List, leb, eqb}
use Rattle.std.specs.Int.Bits.{bit_and, bit_or, bit_xor}
use Rattle.laws.specs.Test.{pick}
use Rattle.words.specs.Placed.{row}

-- the bits in which the words e and u are not f and v, that both have, that stand on the diagonal, or that lie outside
unfoldable pub fault : ℕ → ℕ → ℕ → ℕ → ℕ → ℕ → ℕ
fault e u f v diagonal inside =
    bit_or (bit_or (bit_or (bit_or (bit_xor e f) (bit_xor u v)) (bit_and e u)) (bit_and (bit_or e u) diagonal)) (bit_or e u - bit_and (bit_or e u) inside)

-- the faults of row i, beside the columns f and v
unfoldable pub row_fault : ℕ → List ℕ → List ℕ → List ℕ → List ℕ → ℕ → ℕ
row_fault order edges unknowns f v i =
    fault (row edges i) (row unknowns i) (row f i) (row v i) (2 ^ (i - 1)) (2 ^ pick (leb i order) order 0 - 1)

-- row i has none
unfoldable pub row_stands : ℕ → List ℕ → List ℕ → List ℕ → List ℕ → ℕ → Bool
row_stands order edges unknowns f v i = eqb (row_fault order edges unknowns f v i) 0
