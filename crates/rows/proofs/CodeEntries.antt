-- What the code on entries of rows comes to.
use Prim.Native.Nat.{ℕ, ◌-◌, ◌≤◌}
use mathlib.Core.Path.{◌≡◌, ap₂}
use mathlib.Core.List.{List}
use lib.Count.{ones, ones-le}
use lib.ListN.{get_or, set}
use mir.Syntax.{w32}
use mir.Val.{Fits}
use Rattle.laws.specs.Bit.{with_bit}
use Rattle.words.specs.Placed.{row}
use Rattle.rows.specs.Rows.{with_mark, ones_at}

pub mark_is : (rows : List ℕ) (i j b w x : ℕ) → w ≡ with_bit (row rows i) (j - 1) b → x ≡ with_bit (row rows j) (i - 1) b
    → set (set rows (i - 1) w) (j - 1) x ≡ with_mark rows i j b
unfolding with_mark
mark_is rows i j b w x p q = ap₂ (λ (m n : ℕ). set (set rows (i - 1) m) (j - 1) n) p q

pub ones_is : (rows : List ℕ) (i r : ℕ) → r ≡ ones (get_or rows (i - 1) 0) → r ≡ ones_at rows i
unfolding ones_at
ones_is rows i r e = e

pub ones_small : (x : ℕ) → Fits w32 x → ones x ≤ 32
ones_small x h = ones-le 32 x h.fits
