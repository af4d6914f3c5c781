-- The pairs of one column on rows and paths, by numbers: 0 goes on or open, 1 loses or not won, 2 wins or won.
use Rattle.std.specs.Prelude.{ℕ, ◌-◌, not, List, eqb, ltb}
use Rattle.laws.specs.Test.{pick}
use Rattle.laws.specs.Bit.{bit}
use Rattle.words.specs.Placed.{row}
use Rattle.arrangements.specs.Arrangement.{at}
use Rattle.pairs.specs.Pairs.{Pair, pair}
use Rattle.plain.specs.Plain.{same_pair, pair_of_two}
use Rattle.plain.specs.Before.{column_before}
use Rattle.turns.specs.Turns.{count_by, turn_by}

-- the place that q has for v where v is in use, else 0
unfoldable pub place_held : (used : ℕ) → List ℕ → ℕ → ℕ
place_held used q v = pick (eqb (bit used (v - 1)) 1) (at q v) 0

-- what the pair (i, k) does where u and v stand there, and it is the image of the pair of s and t, by the edges and unknowns of row k and
-- of row v
unfoldable pub turn_down : (ones doubts marks hidden i k u v s t : ℕ) → ℕ
turn_down ones doubts marks hidden i k u v s t =
    turn_by (count_by (bit ones (i - 1)) (bit doubts (i - 1)) (column_before (pair_of_two s t) (pair i k)))
    (count_by (bit marks (u - 1)) (bit hidden (u - 1)) (not (column_before (pair_of_two u v) (pair i k))))
    (same_pair (pair_of_two u v) (pair i k))

-- what pair j does under the path p, where q has the places of the vertices in use
unfoldable pub turn_in_column : (edges unknowns p q : List ℕ) (used : ℕ) → Pair → ℕ
turn_in_column edges unknowns p q used j =
    turn_down (row edges j.column) (row unknowns j.column) (row edges (at p j.column)) (row unknowns (at p j.column))
    j.row j.column (at p j.row) (at p j.column) (place_held used q j.row) (place_held used q j.column)

-- what trying a vertex at place k comes to, by the walk down column k: 0 where the longer beginning is open and has places left
unfoldable pub tried_down : (down k n : ℕ) → ℕ
tried_down down k n = pick (eqb down 0) (pick (ltb k n) 0 1) down
