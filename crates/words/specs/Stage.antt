-- Rows of bits, transposed by halves.
use Rattle.std.specs.Prelude.{ℕ, ◌+◌, ◌-◌, ◌*◌, ◌/◌, ◌%◌, ◌^◌, List, get_or, eqb, ltb}
use Rattle.std.specs.Int.Bits.{bit_and, bit_or}
use Rattle.laws.specs.Test.{pick}
use Rattle.words.specs.Placed.{row, placed}

-- what m marks of a, and of b, moved up by s
unfoldable pub lower : ℕ → ℕ → ℕ → ℕ → ℕ
lower s m a b = bit_or (bit_and a m) (bit_and b m * 2 ^ s % 2 ^ 32)

-- what c marks of a, moved down by s, and of b
unfoldable pub upper : ℕ → ℕ → ℕ → ℕ → ℕ → ℕ
upper s m c a b = bit_or (bit_and (a / 2 ^ s) m) (bit_and b c)

-- row i after a stage
unfoldable pub staged : ℕ → ℕ → ℕ → List ℕ → ℕ → ℕ
staged s m c rows i =
    pick (eqb ((i - 1) % 2) 0)
    (lower s m (get_or rows ((i - 1) / 2) 0) (get_or rows ((i - 1) / 2 + 16) 0))
    (upper s m c (get_or rows ((i - 1) / 2) 0) (get_or rows ((i - 1) / 2 + 16) 0))

abbrev stage : ℕ → ℕ → ℕ → List ℕ → List ℕ
stage s m c rows = placed (staged s m c rows) 32

-- the rows after five stages
unfoldable pub transposed : List ℕ → List ℕ
transposed rows = stage 1 1431655765 2863311530 (stage 2 858993459 3435973836 (stage 4 252645135 4042322160 (stage 8 16711935 4278255360 (stage 16 65535 4294901760 rows))))

-- ---- both halves from one

-- the entry at (i, j) above the diagonal, elsewhere 0
unfoldable pub above : (ℕ → ℕ → ℕ) → ℕ → ℕ → ℕ
above e i j = pick (ltb i j) (e i j) 0

-- row i of rows that are given above the diagonal, in both halves
unfoldable pub in_both_halves : List ℕ → ℕ → ℕ
in_both_halves rows i = bit_or (row rows i) (row (transposed rows) i)
