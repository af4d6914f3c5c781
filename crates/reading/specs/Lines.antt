-- The rows of a graph as reading finds them, above the diagonal: the entries' first bits are unknowns, their second bits edges.
use Rattle.std.specs.Prelude.{ℕ, ◌+◌, ◌-◌, ◌*◌, ◌^◌, ◌≡◌, List, eqb}
use Rattle.laws.specs.Test.{pick}
use Rattle.laws.specs.Bit.{bit}
use Rattle.laws.specs.UpTo.{word_up_to}
use Rattle.laws.specs.Num.{num}
use Rattle.pairs.specs.Pairs.{number}
use Rattle.words.specs.Placed.{placed}
use Rattle.words.specs.Stage.{above}
use Rattle.numbers.specs.Gathered.{every}
use Rattle.record.specs.Layout.{entry_place}
use Rattle.reading.specs.declared.lines.Line.{Line}

-- the first bit, d = 0, or the second, d = 1, of the entry of the pair (i, j), i < j
unfoldable pub mark_in : (ℕ → ℕ) → ℕ → ℕ → ℕ → ℕ → ℕ
mark_in f n d i j = f (entry_place n (number n i j) + d)

-- these bits along row i, above the diagonal
unfoldable pub line_in : (ℕ → ℕ) → ℕ → ℕ → ℕ → ℕ
line_in f n d i = word_up_to (above (mark_in f n d) i) n

-- the lines of all rows
unfoldable pub lines_in : (ℕ → ℕ) → ℕ → ℕ → List ℕ
lines_in f n d = placed (line_in f n d) n

-- ---- a row from the number of its entries

-- r has the odd and the even bits of the m entries that x holds, the last entry's first, from bit i on
pub record LineFrom (x m i : ℕ) (r : Line) : Type 0 where
  pub unknowns : r.unknowns ≡ num (every 1 x) 0 m * 2 ^ i
  pub edges : r.edges ≡ num (every 0 x) 0 m * 2 ^ i

-- ---- block starts

-- 1 where vertex v of a graph of order n starts a block, by the number of the bits of the vertices from 2 on
unfoldable pub start_by : ℕ → ℕ → ℕ → ℕ
start_by x n v = pick (eqb v 1) 1 (bit x (n - v))
