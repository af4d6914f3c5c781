-- What the code builds for moving rows, turn by turn.
use Prim.Native.Nat.{ℕ, ◌+◌, ◌-◌, ◌*◌, ◌/◌, ◌%◌, ◌≤◌, ◌<◌, ◌^◌}
use native.Mathlib.Omega.{arith}
use mathlib.Core.Path.{◌≡◌, ap, ◌∙◌}
use mathlib.Core.List.{List}
use lib.ListN.{get_or}
use Rattle.laws.specs.Bit.{bit}
use Rattle.laws.specs.UpTo.{word_up_to}
use Rattle.laws.specs.Loops.{word_turns, word_grows, word_fits}
use Rattle.words.specs.Placed.{row}
use Rattle.arrangements.specs.Arrangement.{at, moved_bit, moved_row}

pub row_of_place : (rows p : List ℕ) (i v : ℕ) → v ≡ at p i → get_or rows (v - 1) 0 ≡ row rows (at p i)
row_of_place rows p i v e = ap (λ (k : ℕ). get_or rows (k - 1) 0) e

pub moved_weight : (w v x j r : ℕ) → v ≡ x → r ≡ w / 2 ^ (v - 1) % 2 * 2 ^ j → r ≡ bit w (x - 1) * 2 ^ j
moved_weight w v x j r e h = h ∙ ap (λ (k : ℕ). bit w (k - 1) * 2 ^ j) e

pub moved_turns : (rows p : List ℕ) (i j w s r : ℕ) → w ≡ row rows (at p i) → r ≡ bit w (at p (j + 1) - 1) * 2 ^ j
    → s ≡ word_up_to (moved_bit rows p i) j → s + r ≡ word_up_to (moved_bit rows p i) (j + 1)
unfolding moved_bit
moved_turns rows p i j w s r a e h = word_turns (moved_bit rows p i) j s r h (e ∙ rw a)

pub moved_done : (rows p : List ℕ) (i m n s : ℕ) → s ≡ word_up_to (moved_bit rows p i) m → m ≤ n → n ≤ m → s ≡ moved_row rows p n i
unfolding moved_row
moved_done rows p i m n s h a b = let q : m ≡ n = omega arith in h ∙ ap (word_up_to (moved_bit rows p i)) q

-- a word of j bits with one more at j
pub bit_grows : (s r b j : ℕ) → s < 2 ^ j → r ≡ b % 2 * 2 ^ j → s + r < 2 ^ (j + 1)
bit_grows s r b j h e = word_grows s (b % 2) r j h (omega arith) e

pub bit_fits : (s r b j n : ℕ) → s < 2 ^ j → r ≡ b % 2 * 2 ^ j → j < n → n ≤ 32 → s + r < 2 ^ 32
bit_fits s r b j n h e l k = word_fits s (b % 2) r j n h (omega arith) e l k
