-- Rows of words: vertex j is bit j - 1 of a row. Block starts are one word.
use Rattle.std.specs.Prelude.{ℕ, ◌+◌, ◌-◌, ◌*◌, List, set, ltb}
use Rattle.std.specs.Int.Count.{ones}
use Rattle.laws.specs.Test.{pick}
use Rattle.laws.specs.Bit.{bit, with_bit}
use Rattle.laws.specs.UpTo.{sum_up_to}
use Rattle.words.specs.Placed.{row}

-- how many vertices row i marks
unfoldable pub ones_at : List ℕ → ℕ → ℕ
ones_at rows i = ones (row rows i)

-- the entry at (i, j) of rows of edges and rows of unknowns: 0 non-edge, 1 edge, 2 unknown
abbrev pub entry_in : List ℕ → List ℕ → ℕ → ℕ → ℕ
entry_in edges unknowns i j = bit (row edges i) (j - 1) + 2 * bit (row unknowns i) (j - 1)

-- rows with both symmetric bits of (i, j) made b
unfoldable pub with_mark : List ℕ → ℕ → ℕ → ℕ → List ℕ
with_mark rows i j b = set (set rows (i - 1) (with_bit (row rows i) (j - 1) b)) (j - 1) (with_bit (row rows j) (i - 1) b)

-- the entry at (i, j) where e gives those with i < j
unfoldable pub mirrored : (ℕ → ℕ → ℕ) → ℕ → ℕ → ℕ
mirrored e i j = pick (ltb i j) (e i j) (pick (ltb j i) (e j i) 0)

-- ---- blocks

-- 1 where vertex v starts a block
abbrev pub start_at : ℕ → ℕ → ℕ
start_at starts v = bit starts (v - 1)

-- the number of v's block: how many blocks start at 1..v
abbrev pub block_of : ℕ → ℕ → ℕ
block_of starts v = sum_up_to (start_at starts) v
