-- What the code on words comes to.
use Prim.Native.Nat.{ℕ, ◌+◌, ◌-◌, ◌*◌, ◌/◌, ◌%◌, ◌≤◌, ◌<◌, ◌^◌}
use native.Mathlib.Omega.{arith}
use native.Mathlib.Nat.{one-mul}
use mathlib.Core.Path.{◌≡◌, ap₂, ◌∙◌}
use lib.Bits.{bit_and, and_le_l}
use lib.Dec.{lit<}
use lib.Pow.{shl_exact, pow_pos}
use Rattle.laws.specs.Bit.{with_bit}
use Rattle.laws.specs.BitLaws.{bit_in, with_bit_below}

-- 1 << k is 2 ^ k where that fits 64 bits
pub shifted_one : (k : ℕ) → k < 64 → 1 * 2 ^ k % 2 ^ 64 ≡ 2 ^ k
shifted_one k l = shl_exact 1 k 64 (lit< tt) (omega arith) ∙ one-mul (2 ^ k)

pub shifted_limit : (k : ℕ) → k < 64 → 1 ≤ 1 * 2 ^ k % 2 ^ 64
shifted_limit k l = rw (shifted_one k l) (pow_pos k)

-- 1 << k is 2 ^ k where that fits 32 bits
pub shifted_word : (k : ℕ) → k < 32 → 1 * 2 ^ k % 2 ^ 32 ≡ 2 ^ k
shifted_word k l = shl_exact 1 k 32 (lit< tt) (omega arith) ∙ one-mul (2 ^ k)

pub shifted_some : (k : ℕ) → k < 32 → 1 ≤ 1 * 2 ^ k % 2 ^ 32
shifted_some k l = rw (shifted_word k l) (pow_pos k)

pub shifted : (b k : ℕ) → b ≤ 1 → k < 32 → b * 2 ^ k % 2 ^ 32 ≡ b * 2 ^ k
shifted b k l h = shl_exact 1 k 32 (omega arith) (omega arith)

pub bit_out : (w k r : ℕ) → r ≡ w / 2 ^ k % 2 * 2 ^ k → r ≤ w
bit_out w k r e = rw e (bit_in w k)

pub with_bit_is : (w k b r s : ℕ) → r ≡ w / 2 ^ k % 2 * 2 ^ k → s ≡ b * 2 ^ k → w - r + s ≡ with_bit w k b
unfolding with_bit
with_bit_is w k b r s p q = ap₂ (λ (x y : ℕ). w - x + y) p q

pub with_bit_fits : (w k b r s : ℕ) → r ≡ w / 2 ^ k % 2 * 2 ^ k → s ≡ b * 2 ^ k → w < 2 ^ 32 → k < 32 → b ≤ 1 → w - r + s < 2 ^ 32
with_bit_fits w k b r s p q l h c = rw (with_bit_is w k b r s p q) (with_bit_below w k b 32 l h c)

pub part_within : (mask used : ℕ) → bit_and mask used ≤ mask
part_within mask used = and_le_l mask used
