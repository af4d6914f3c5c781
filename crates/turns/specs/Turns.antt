-- What the code computes on rows and paths, by numbers: 0 goes on or open, 1 loses or lost, 2 wins or won.
use Rattle.std.specs.Prelude.{ℕ, ◌-◌, ◌≤◌, ◌<◌, ◌≡◌, ◌≢◌, Bool, not, List, [], ◌∷◌, eqb}
use Rattle.laws.specs.Test.{pick}
use Rattle.laws.specs.Bit.{bit}
use Rattle.words.specs.Placed.{row}
use Rattle.arrangements.specs.Arrangement.{at}
use Rattle.pairs.specs.Pairs.{Pair, pair}
use Rattle.plain.specs.Plain.{same_pair, pair_of_two}

-- all 32 marks
abbrev pub all_marks : ℕ
all_marks = 4294967295

-- 1 where an entry counts as an edge, by its bits: where it is unknown, the test decides
unfoldable pub count_by : (edge unknown : ℕ) → Bool → ℕ
count_by edge unknown test = pick (eqb unknown 1) (pick test 1 0) edge

-- what a pair does where its entry counts as a and that of its image as b
unfoldable pub turn_by : ℕ → ℕ → Bool → ℕ
turn_by a b own = pick (eqb a b) 0 (pick (eqb a 1) 2 (pick own 0 1))

-- which of two pairs is compared first
module _ (before : Pair → Pair → Bool) where
  -- what the pair (i, j) does where u and v stand there, and it is the image of the pair of s and t, by the edges and unknowns of row i
  -- and of row u: an unknown entry counts as an edge where that pair comes before (i, j), and at the image where this does not come
  -- before (i, j)
  unfoldable pub turn_of : (ones doubts marks hidden i j u v s t : ℕ) → ℕ
  turn_of ones doubts marks hidden i j u v s t =
      turn_by (count_by (bit ones (j - 1)) (bit doubts (j - 1)) (before (pair_of_two s t) (pair i j)))
      (count_by (bit marks (v - 1)) (bit hidden (v - 1)) (not (before (pair_of_two u v) (pair i j))))
      (same_pair (pair_of_two u v) (pair i j))

  -- what pair k does under the path p, where q has the place of each vertex
  unfoldable pub turn_at : List ℕ → List ℕ → List ℕ → List ℕ → Pair → ℕ
  turn_at edges unknowns p q k =
      turn_of (row edges k.row) (row unknowns k.row) (row edges (at p k.row)) (row unknowns (at p k.row))
      k.row k.column (at p k.row) (at p k.column) (at q k.row) (at q k.column)

-- ---- along pairs

-- the first of the pairs that does not go on, or 0
unfoldable pub walk_code : (Pair → ℕ) → List Pair → ℕ
walk_code t [] = 0
walk_code t (k ∷ ks) =
    let rest = walk_code t ks in
    pick (eqb (t k) 0) rest (t k)

-- that pair, or (0, 0)
unfoldable pub first_pair : (Pair → ℕ) → List Pair → Pair
first_pair t [] = pair 0 0
first_pair t (k ∷ ks) =
    let rest = first_pair t ks in
    pick (eqb (t k) 0) rest k

-- each of the first k places of p holds a number of 1..32
pub record Within (k : ℕ) (p : List ℕ) : Type 0 where
  pub low : (i : ℕ) → 1 ≤ i → i ≤ k → 1 ≤ at p i
  pub high : (i : ℕ) → 1 ≤ i → i ≤ k → at p i ≤ 32

-- the first n places of p hold different vertices of 1..n
pub record Arranged (n : ℕ) (p : List ℕ) : Type 0 where
  pub within : Within n p
  pub below : (i : ℕ) → 1 ≤ i → i ≤ n → at p i ≤ n
  pub once : (i j : ℕ) → 1 ≤ j → j < i → i ≤ n → at p i ≢ at p j

-- q has the place of each of them
pub record Places (n : ℕ) (p q : List ℕ) : Type 0 where
  pub arranged : Arranged n p
  pub undone : (i : ℕ) → 1 ≤ i → i ≤ n → at q (at p i) ≡ i
