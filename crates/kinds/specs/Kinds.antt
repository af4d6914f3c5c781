-- What is written for a pair in a clause, by tests on the pair, and at which pairs of a row something may be written.
use Rattle.std.specs.Prelude.{ℕ, ◌+◌, ◌-◌, ◌≤◌, ◌≡◌, ◌≢◌, Bool, true, List, eqb}
use Rattle.laws.specs.Test.{both, pick}
use Rattle.laws.specs.Bit.{bit}
use Rattle.needed.specs.Settled.{up_to}
use Rattle.rows.specs.Rows.{entry_in}
use Rattle.arrangements.specs.Arrangement.{at}
use Rattle.pairs.specs.Pairs.{Pair, pair}
use Rattle.plain.specs.Plain.{pair_of_two, image}

-- what is written for a pair with entry a: 1 for "not" the pair where a is 1, the pair comes before its source and is reached; 2 for the
-- pair where a is 0, its source comes before it and is reached; else 0 for nothing
unfoldable pub kind_by : ℕ → (first here late source : Bool) → ℕ
kind_by a first here late source = pick (eqb a 1) (pick (both first here) 1 0) (pick (eqb a 0) (pick (both late source) 2 0) 0)

-- the same at pair k of the rows, by which of two pairs is compared first, where q is the inverse of the arrangement. Pairs are reached up
-- to the winning pair w; the entry at w itself, or at its image, may be left out
unfoldable pub kind_at : (before : Pair → Pair → Bool) → List ℕ → List ℕ → List ℕ → (w : Pair) → (without_pair without_image : Bool) → Pair → ℕ
kind_at before edges unknowns q w without_pair without_image k =
    kind_by (entry_in edges unknowns k.row k.column) (before k (image q k)) (up_to before without_pair w k) (before (image q k) k) (up_to before without_image w (image q k))

-- ---- which pairs of a row are looked at

-- the mask has each place up to d of the arrangement p
pub record FirstIn (d : ℕ) (p : List ℕ) (mask : ℕ) : Type 0 where
  pub has : (i : ℕ) → 1 ≤ i → i ≤ d → bit mask (at p i - 1) ≡ 1

-- the mask has each vertex of 1..n that stands at a place up to d, where q is the inverse of the arrangement
pub record Before (n d : ℕ) (q : List ℕ) (mask : ℕ) : Type 0 where
  pub has : (j : ℕ) → 1 ≤ j → j ≤ n → at q j ≤ d → bit mask (j - 1) ≡ 1

-- the place before the one by which pairs are compared first: before w's row, and by columns before its column
unfoldable pub place_before : (mode row column : ℕ) → ℕ
place_before mode row column = pick (eqb mode 2) (column - 1) (row - 1)

-- the masks have the vertices at the places up to that one, up to w's row, and up to its column
pub record MaskedBy (mode n row column : ℕ) (q : List ℕ) (less at_row up : ℕ) : Type 0 where
  pub less_has : Before n (place_before mode row column) q less
  pub row_has : Before n row q at_row
  pub column_has : Before n column q up

module _ (before : Pair → Pair → Bool) where
  -- the mask has each column at which row i is reached
  pub record Firsts (w : Pair) (i mask : ℕ) : Type 0 where
    pub has : (without : Bool) (j : ℕ) → 1 ≤ j → j ≤ 32 → up_to before without w (pair i j) ≡ true → bit mask (j - 1) ≡ 1

  -- the mask has each of 1..n whose pair with a vertex that stands at u is the image of a reached one
  pub record Sources (w : Pair) (n : ℕ) (q : List ℕ) (u mask : ℕ) : Type 0 where
    pub has : (without : Bool) (j : ℕ) → 1 ≤ j → j ≤ n → up_to before without w (pair_of_two u (at q j)) ≡ true → bit mask (j - 1) ≡ 1

  -- the mask has these for every q, made of masks of the vertices at the places up to d, up to row, and up to column
  pub record SourcesBy (d row column u less at_row up mask : ℕ) : Type 0 where
    pub are : (n : ℕ) (q : List ℕ) → n ≤ 32 → Before n d q less → Before n row q at_row → Before n column q up → Sources (pair row column) n q u mask

-- the mask has each column from j on at which row i is written, column j as its lowest bit
pub record Ahead (t : Pair → ℕ) (n i j mask : ℕ) : Type 0 where
  pub has : (d : ℕ) → j + d ≤ n → t (pair i (j + d)) ≢ 0 → bit mask d ≡ 1
