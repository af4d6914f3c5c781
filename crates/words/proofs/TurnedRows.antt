-- The rows after five stages, as rows of vertices.
use Prim.Native.Nat.{ℕ, ◌+◌, ◌-◌, ◌*◌, ◌/◌, ◌%◌, ◌^◌, ◌≤◌, ◌<◌}
use native.Mathlib.Omega.{arith}
use native.Mathlib.Nat.{mod-lt, lt_of_le_of_lt}
use mathlib.Core.Path.{◌≡◌}
use mathlib.Core.List.{List}
use lib.ListN.{get_or}
use lib.Dec.{lit<}
use lib.Pow.{pow_pos}
use lib.Bits.{bit_and, and_le_r, or_lt}
use Rattle.laws.specs.Compared.{by_same}
use Rattle.laws.specs.Bit.{bit}
use Rattle.words.specs.Placed.{row, placed}
use Rattle.words.specs.Stage.{lower, upper, staged, transposed}
use Rattle.words.proofs.StageLaws.{Halves}
use Rattle.words.proofs.Transposing.{at_even, at_odd, halves_1, transposed_bit}

lower_below : (s m a b : ℕ) → m < 2 ^ 32 → lower s m a b < 2 ^ 32
unfolding lower
lower_below s m a b l =
    or_lt 32 (bit_and a m) (bit_and b m * 2 ^ s % 2 ^ 32) (lt_of_le_of_lt (and_le_r a m) l) (mod-lt (bit_and b m * 2 ^ s) (pow_pos 32))

upper_below : (s m c a b : ℕ) → m < 2 ^ 32 → c < 2 ^ 32 → upper s m c a b < 2 ^ 32
unfolding upper
upper_below s m c a b l h =
    or_lt 32 (bit_and (a / 2 ^ s) m) (bit_and b c) (lt_of_le_of_lt (and_le_r (a / 2 ^ s) m) l) (lt_of_le_of_lt (and_le_r b c) h)

-- a row after a stage has 32 bits
stage_below : (s m c : ℕ) → Halves s m c → (rows : List ℕ) (i : ℕ) → m < 2 ^ 32 → c < 2 ^ 32 → i < 32 → get_or (placed (staged s m c rows) 32) i 0 < 2 ^ 32
stage_below s m c h rows i lm lc l =
    by_same (i % 2) 0
    (λ p. rw (at_even s m c h rows i l p) (lower_below s m (get_or rows (i / 2) 0) (get_or rows (i / 2 + 16) 0) lm))
    (λ p. rw (at_odd s m c h rows i l (omega arith)) (upper_below s m c (get_or rows (i / 2) 0) (get_or rows (i / 2 + 16) 0) lm lc))

-- so has a transposed row
pub transposed_below : (rows : List ℕ) (i : ℕ) → i < 32 → get_or (transposed rows) i 0 < 2 ^ 32
unfolding transposed
transposed_below rows i l = stage_below 1 1431655765 2863311530 halves_1 _ i (lit< tt) (lit< tt) l

-- bit j of the transposed row of vertex i is bit i of the row of vertex j
pub turned : (rows : List ℕ) (i j : ℕ) → 1 ≤ i → i ≤ 32 → 1 ≤ j → j ≤ 32 → bit (row (transposed rows) i) (j - 1) ≡ bit (row rows j) (i - 1)
turned rows i j li hi lj hj = transposed_bit rows (i - 1) (j - 1) (omega arith) (omega arith)
