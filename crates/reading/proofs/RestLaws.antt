-- What follows the record at the start of the bytes.
use Prim.Native.Nat.{ℕ, ◌+◌, ◌-◌}
use mathlib.Core.Path.{◌≡◌, ap, ◌∙◌}
use mathlib.Core.List.{List}
use native.Mathlib.Omega.{arith}
use lib.ListN.{length, take, drop, length-drop}
use lib.Seq.{take_all}
use Rattle.record.specs.Answers.{taken_from, rest_of}

-- the rest of the slice after the record is what follows
pub rest_is : (s : List ℕ) (n : ℕ) → n ≡ taken_from s → take (length s - n) (drop n s) ≡ rest_of s
unfolding rest_of
rest_is s n e = take_all (length s - n) (drop n s) (rw length-drop (omega arith)) ∙ ap (λ (k : ℕ). drop k s) e

-- and it begins where that does
pub rest_from : (b o : ℕ) (s : List ℕ) (n : ℕ) → n ≡ taken_from s → ◌≡◌ {A = ℕ × ℕ} (b, n + o) (b, o + taken_from s)
rest_from b o s n e = ap {B = ℕ × ℕ} (λ (k : ℕ). (b, k)) (rw e (omega arith))
