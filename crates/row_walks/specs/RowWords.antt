-- A row walked by two words, a bit of each for a pair, and what tells that it goes on all along.
use Rattle.std.specs.Prelude.{ℕ, ◌-◌, ◌^◌, ◌≤◌, ◌<◌, ◌≡◌, List, ltb}
use Rattle.std.specs.Int.Bits.{bit_and, bit_or}
use Rattle.laws.specs.Test.{pick}
use Rattle.laws.specs.Bit.{bit}
use Rattle.arrangements.specs.Arrangement.{at}
use Rattle.pairs.specs.Pairs.{Pair}
use Rattle.plain.specs.Plain.{same_pair, pair_of_two}
use Rattle.turns.specs.Turns.{all_marks, turn_by}

-- how entries count as one word: their edges, and of the unknown ones those in the mask
unfoldable pub counted_by : (edges unknowns mask : ℕ) → ℕ
counted_by edges unknowns mask = bit_or (edges - bit_and edges unknowns) (bit_and unknowns mask)

-- the columns j for which (i, j) is the image of an earlier pair, where u stands at place i and vertex i at place s, and the mask has the
-- vertices at later places: all where s comes before i; else the vertices at earlier places, and u where s is below it
unfoldable pub sources_by : (i u s later : ℕ) → ℕ
sources_by i u s later =
    let earlier = all_marks - bit_and all_marks (bit_or later (2 ^ (u - 1))) in
    pick (ltb s i) all_marks (pick (ltb s u) (bit_or earlier (2 ^ (u - 1))) earlier)

-- the vertices whose pair with u does not come before the pair of row i whose image it is: none where u is below i; else those from i on,
-- without i where u is below s
unfoldable pub unmet_by : (i u s : ℕ) → ℕ
unmet_by i u s =
    let low = 2 ^ (i - 1) - 1 in
    pick (ltb u i) 0 (pick (ltb u s) (all_marks - bit_and all_marks (bit_or low (2 ^ (i - 1)))) (all_marks - bit_and all_marks low))

-- what pair k does under the path p, by a bit of each word
unfoldable pub turn_with : (ones marks : ℕ) → List ℕ → Pair → ℕ
turn_with ones marks p k =
    turn_by (bit ones (k.column - 1)) (bit marks (at p k.column - 1)) (same_pair (pair_of_two (at p k.row) (at p k.column)) k)

-- what pair k of a row does whose vertex i stands at place i, by the row's edges and unknowns: an unknown entry counts as an edge where its
-- vertex stands at an earlier place than its own number, and at the image where the vertex there is not below the place
unfoldable pub turn_fixed : (ones doubts : ℕ) → List ℕ → List ℕ → Pair → ℕ
turn_fixed ones doubts p q k =
    let full = bit_or ones doubts in
    let sure = ones - bit_and ones doubts in
    turn_by (bit (pick (ltb (at q k.column) k.column) full sure) (k.column - 1))
    (bit (pick (ltb (at p k.column) k.column) sure full) (at p k.column - 1))
    (same_pair (pair_of_two k.row (at p k.column)) k)

-- ---- masks

-- the mask has the vertices of the places after i, and none of those up to i
pub record Later (n i : ℕ) (p : List ℕ) (mask : ℕ) : Type 0 where
  pub has : (j : ℕ) → i < j → j ≤ n → bit mask (at p j - 1) ≡ 1
  pub lacks : (j : ℕ) → 1 ≤ j → j ≤ i → bit mask (at p j - 1) ≡ 0

-- nothing is unknown at a place after i or at a vertex in the mask, and each edge bit of such a place is as that of each such vertex
pub record Alike (n i ones doubts marks hidden mask : ℕ) : Type 0 where
  pub known : (j : ℕ) → i < j → j ≤ n → bit doubts (j - 1) ≡ 0
  pub known_there : (k : ℕ) → bit mask k ≡ 1 → bit hidden k ≡ 0
  pub same : (j k : ℕ) → i < j → j ≤ n → bit mask k ≡ 1 → bit ones (j - 1) ≡ bit marks k
