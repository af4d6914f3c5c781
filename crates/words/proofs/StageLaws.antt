-- The bits of rows after a stage, and after all five.
use Prim.Native.Nat.{ℕ, ◌+◌, ◌-◌, ◌*◌, ◌/◌, ◌%◌, ◌^◌, ◌<◌}
use native.Mathlib.Omega.{arith}
use mathlib.Core.Path.{◌≡◌, sym, ap, ◌∙◌}
use lib.Pow.{pow_pos, split, shr-shr}
use lib.Bits.{bit_and}
use Rattle.laws.specs.Compared.{by_below}
use Rattle.laws.specs.Bit.{bit}
use Rattle.laws.specs.BitLaws.{bit_of_zero, bit_of_and, bit_of_or, bit_of_low, bit_of_high}
use Rattle.words.specs.Stage.{lower, upper}

-- ---- bits of a shifted word

-- a bit below the width is not cut off
pub bit_of_cut : (w n k : ℕ) → k < n → bit (w % 2 ^ n) k ≡ bit w k
bit_of_cut w n k l = sym (bit_of_low k n (w / 2 ^ n) (w % 2 ^ n) l) ∙ ap (λ (x : ℕ). bit x k) (split w n)

-- shifting up leaves zeros below
pub bit_of_up_low : (w s k : ℕ) → k < s → bit (w * 2 ^ s) k ≡ 0
bit_of_up_low w s k l =
    let e : w * 2 ^ s ≡ w * 2 ^ s + 0 = omega arith in
    ap (λ (x : ℕ). bit x k) e ∙ bit_of_low k s w 0 l ∙ bit_of_zero k

-- and brings bit k to place s + k
pub bit_of_up : (w s k : ℕ) → bit (w * 2 ^ s) (s + k) ≡ bit w k
bit_of_up w s k =
    let e : w * 2 ^ s ≡ w * 2 ^ s + 0 = omega arith in
    ap (λ (x : ℕ). bit x (s + k)) e ∙ bit_of_high k s w 0 (pow_pos s)

-- shifting down brings bit s + k to place k
pub bit_of_down : (w s k : ℕ) → bit (w / 2 ^ s) k ≡ bit w (s + k)
bit_of_down w s k = ap (λ (x : ℕ). x % 2) (shr-shr w s k)

-- ---- one stage

-- the side of column k: 1 where the bit worth s is set in k
abbrev pub side : ℕ → ℕ → ℕ
side s k = k / s % 2

-- m marks the columns of side 0, c those of side 1, and s columns further is the other side
pub record Halves (s m c : ℕ) : Type 0 where
  pub marks : (k : ℕ) → k < 32 → bit m k ≡ 1 - side s k
  pub others : (k : ℕ) → k < 32 → bit c k ≡ side s k
  pub first : (k : ℕ) → k < s → side s k ≡ 0
  pub across : (k : ℕ) → side s (s + k) ≡ 1 - side s k

module _ (s m c : ℕ) (h : Halves s m c) (a b : ℕ) where
  -- column k of the lower half: a's own where k is on side 0, else b's from s columns before
  pub lower_near : (k : ℕ) → k < 32 → side s k ≡ 0 → bit (lower s m a b) k ≡ bit a k
  unfolding lower
  lower_near k l z =
      let x = bit_and b m * 2 ^ s in
      let none : bit x k ≡ 0 =
      by_below k s (λ q. bit_of_up_low (bit_and b m) s k q)
      (λ q. let p : k ≡ s + (k - s) = omega arith in
      let t : side s (s + (k - s)) ≡ 0 = ap (side s) (sym p) ∙ z in
      ap (λ (y : ℕ). bit x y) p ∙ bit_of_up (bit_and b m) s (k - s) ∙ bit_of_and b m (k - s)
      ∙ omega (arith, t, h.across (k - s), h.marks (k - s) (omega arith))) in
      bit_of_or (bit_and a m) (x % 2 ^ 32) k ∙ omega (arith, bit_of_and a m k, h.marks k l, bit_of_cut x 32 k l, none)

  pub lower_far : (k : ℕ) → s + k < 32 → side s (s + k) ≡ 1 → bit (lower s m a b) (s + k) ≡ bit b k
  unfolding lower
  lower_far k l z =
      let x = bit_and b m * 2 ^ s in
      bit_of_or (bit_and a m) (x % 2 ^ 32) (s + k)
      ∙ omega (arith, bit_of_and a m (s + k), h.marks (s + k) l, bit_of_cut x 32 (s + k) l, bit_of_up (bit_and b m) s k, bit_of_and b m k, h.across k, h.marks k (omega arith))

  -- column k of the upper half: a's from s columns further where k is on side 0, else b's own
  pub upper_near : (k : ℕ) → k < 32 → side s k ≡ 0 → bit (upper s m c a b) k ≡ bit a (s + k)
  unfolding upper
  upper_near k l z =
      bit_of_or (bit_and (a / 2 ^ s) m) (bit_and b c) k
      ∙ omega (arith, bit_of_and (a / 2 ^ s) m k, bit_of_and b c k, h.marks k l, h.others k l, bit_of_down a s k)

  pub upper_far : (k : ℕ) → k < 32 → side s k ≡ 1 → bit (upper s m c a b) k ≡ bit b k
  unfolding upper
  upper_far k l z =
      bit_of_or (bit_and (a / 2 ^ s) m) (bit_and b c) k
      ∙ omega (arith, bit_of_and (a / 2 ^ s) m k, bit_of_and b c k, h.marks k l, h.others k l)
