-- Words of ones.
use Prim.Native.Nat.{ℕ, zero, suc, ◌-◌, ◌^◌, ◌≤◌, ◌<◌}
use native.Mathlib.Nat.{pow-suc}
use native.Mathlib.Omega.{arith}
use mathlib.Core.Path.{◌≡◌, refl}
use lib.Pow.{pow_pos}
use Rattle.laws.specs.Bit.{bit}
use Rattle.laws.specs.UpTo.{word_up_to}
use Rattle.laws.specs.UpToLaws.{word_bit}
use Rattle.turns.specs.Turns.{all_marks}

word_of_ones : (m : ℕ) → word_up_to (λ _. 1) m ≡ 2 ^ m - 1
unfolding word_up_to
word_of_ones zero = refl
word_of_ones (suc m) = omega (arith, word_of_ones m, pow-suc 2 m, pow_pos m)

-- each of the m bits of 2 ^ m - 1 is 1
pub ones_bit : (m k : ℕ) → k < m → bit (2 ^ m - 1) k ≡ 1
ones_bit m k h =
    let place : suc k - 1 ≡ k = omega arith in
    rw (word_of_ones m, place) at (word_bit (λ _. 1) m (suc k) (λ _ _ _. omega arith) (omega arith) h)

pub all_bits : (k : ℕ) → k < 32 → bit all_marks k ≡ 1
all_bits k h = ones_bit 32 k h

pub power_some : (w k : ℕ) → w ≡ 2 ^ k → 1 ≤ w
power_some w k e = rw e (pow_pos k)
