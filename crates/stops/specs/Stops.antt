-- The pairs of row 1, by the vertices that decide them, where u stands at place 1.
use Rattle.std.specs.Prelude.{ℕ, ◌+◌, ◌-◌, ◌^◌, ◌≤◌, ◌≡◌, ◌≢◌, List, length, get_or, set, take, eqb, ltb}
use Rattle.std.specs.Int.Bits.{bit_and, bit_or}
use Rattle.laws.specs.Test.{pick}
use Rattle.laws.specs.Bit.{bit}
use Rattle.words.specs.Placed.{row}
use Rattle.arrangements.specs.Arrangement.{at}
use Rattle.turns.specs.Turns.{all_marks, count_by}
use Rattle.stops.specs.Used.{used_mask}

-- the vertex that makes the pair (1, k) its own image, as a mask
unfoldable pub own_mask : ℕ → ℕ → ℕ
own_mask u k = pick (eqb u 1) (2 ^ (k - 1)) (pick (eqb u k) 1 0)

-- the vertices whose pair with u comes before (1, k): those below k where u is 1, vertex 1 where u is below k
unfoldable pub passed_mask : ℕ → ℕ → ℕ
passed_mask u k = pick (eqb u 1) (2 ^ (k - 1) - 1) (pick (ltb u k) 1 0)

-- the vertices whose pair with u counts as an edge as the image of (1, k), by the edges and unknowns of row u
unfoldable pub marks_at : (marks hidden u k : ℕ) → ℕ
marks_at marks hidden u k = bit_or marks (hidden - bit_and hidden (passed_mask u k))

-- 1 where (1, k) is the image of a pair before it, by the vertices in use: vertex k where u is 1, vertex 1 where u is k
unfoldable pub source_bit : (used u k : ℕ) → ℕ
source_bit used u k = pick (eqb u 1) (bit used (k - 1)) (pick (eqb u k) (bit used 0) 0)

-- 1 where (1, k) counts as an edge, by the edges and unknowns of row 1
unfoldable pub one_at : (ones doubts used u k : ℕ) → ℕ
one_at ones doubts used u k = count_by (bit ones (k - 1)) (bit doubts (k - 1)) (eqb (source_bit used u k) 1)

-- the vertices that decide (1, k) when they are put at place k: those without a mark where it counts as an edge, else those with one,
-- less the one that makes the pair its own image
unfoldable pub stops_by : (one marks u k : ℕ) → ℕ
stops_by one marks u k = pick (eqb one 1) (all_marks - bit_and all_marks marks) (marks - bit_and marks (own_mask u k))

-- the same by rows of edges and of unknowns
unfoldable pub stops_at : (edges unknowns : List ℕ) (used u k : ℕ) → ℕ
stops_at edges unknowns used u k =
    stops_by (one_at (row edges 1) (row unknowns 1) used u k) (marks_at (row edges u) (row unknowns u) u k) u k

-- ---- the stops of all places

-- (1, k) is known
abbrev pub Sure : List ℕ → ℕ → Type 0
Sure unknowns k = bit (row unknowns 1) (k - 1) ≡ 0

-- the stops that a search has at a depth: those of the places up to the next, and of each place whose pair with place 1 is known; place 1
-- has none
pub record Stopping (edges unknowns : List ℕ) (n depth : ℕ) (path stops : List ℕ) : Type 0 where
  pub none_first : get_or stops 0 0 ≡ 0
  pub upto : (k : ℕ) → 2 ≤ k → k ≤ depth + 1 → row stops k ≡ stops_at edges unknowns (used_mask (take (k - 1) path)) (at path 1) k
  pub sure : 1 ≤ depth → (k used : ℕ) → 2 ≤ k → k ≤ n → Sure unknowns k → row stops k ≡ stops_at edges unknowns used (at path 1) k

-- the stops of the places 2..m for these vertices in use, and none at place 1
pub record Made (edges unknowns : List ℕ) (used u m : ℕ) (stops : List ℕ) : Type 0 where
  pub long : length stops ≡ 32
  pub none_first : get_or stops 0 0 ≡ 0
  pub later : (k : ℕ) → 2 ≤ k → k ≤ m → row stops k ≡ stops_at edges unknowns used u k

-- stops before and after a vertex is chosen at a depth: the first vertex makes them all, and a later one those of the next place where
-- its pair with place 1 is unknown
pub record Stopped (edges unknowns : List ℕ) (n depth used u : ℕ) (before after : List ℕ) : Type 0 where
  pub none_first : get_or after 0 0 ≡ 0
  pub chosen : depth ≡ 0 → (k : ℕ) → 2 ≤ k → k ≤ n → row after k ≡ stops_at edges unknowns used u k
  pub doubtful : depth ≢ 0 → ¬ Sure unknowns (depth + 2) → after ≡ set before (depth + 1) (stops_at edges unknowns used u (depth + 2))
  pub kept : depth ≢ 0 → Sure unknowns (depth + 2) → after ≡ before
