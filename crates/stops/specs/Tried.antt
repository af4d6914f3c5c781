-- What trying a vertex comes to, by numbers: 0 where the longer beginning is open, 2 where it is won, else 1.
use Rattle.std.specs.Prelude.{ℕ, ◌+◌, eqb, ltb}
use Rattle.laws.specs.Test.{pick}

-- by the vertex's bit in the stops of its place k, how (1, k) counts, and the walk of the rows after the first
unfoldable pub tried_by : (stop one rows k n : ℕ) → ℕ
tried_by stop one rows k n = pick (eqb stop 1) (one + 1) (pick (ltb k n) 0 (pick (eqb rows 2) 2 1))
