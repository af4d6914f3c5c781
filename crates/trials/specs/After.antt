-- The walk on after the winning pair, where only the entries that stay are known.
use Rattle.std.specs.Prelude.{ℕ, ◌-◌, Bool, List, eqb}
use Rattle.laws.specs.Test.{both, pick}
use Rattle.needed.specs.Settled.{up_to}
use Rattle.rows.specs.Rows.{entry_in}
use Rattle.arrangements.specs.Arrangement.{at}
use Rattle.pairs.specs.Pairs.{Pair}
use Rattle.plain.specs.Plain.{same_pair, image}
use Rattle.turns.specs.Turns.{turn_by}

-- how an entry a counts: as the value, unless the other pair that meets it comes before the one at hand; then as the opposite, unless a is
-- the value and stays. The value is 0 for the entry of the pair at hand, which its source meets too, and 1 for that of its image
unfoldable pub count_after : (value a : ℕ) → (first reaches : Bool) → ℕ
count_after value a first reaches = pick first (pick (both (eqb a value) reaches) value (1 - value)) value

-- what pair k does under the path p, by which of two pairs is compared first, where q has the place of each vertex: entries 1 stay up to the
-- winning pair w, and 0 where the source is up to it; what stands at w itself, or at its image, may be left out
unfoldable pub turn_after : (before : Pair → Pair → Bool) → List ℕ → List ℕ → List ℕ → List ℕ → (w : Pair) → (without_pair without_image : Bool) → Pair → ℕ
turn_after before edges unknowns p q w without_pair without_image k =
    turn_by (count_after 0 (entry_in edges unknowns k.row k.column) (before (image q k) k) (up_to before without_image w (image q k)))
    (count_after 1 (entry_in edges unknowns (at p k.row) (at p k.column)) (before (image p k) k) (up_to before without_pair w (image p k)))
    (same_pair (image p k) k)
