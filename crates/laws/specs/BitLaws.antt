-- Laws of the bits of a number.
use Rattle.std.specs.Prelude.{ℕ, zero, suc, ◌+◌, ◌-◌, ◌*◌, ◌/◌, ◌%◌, ◌^◌, ◌≤◌, ◌<◌, min, max, ◌≡◌, ◌≢◌}
use Rattle.std.proofs.Common.{sym, ap, ◌∙◌, mod-lt, div-one, pow-suc, arith, pow_pos, pow_mono, shr-shr}
use Rattle.std.proofs.Math.Nat.{div-eq_of_lt, div-div-eq-div-mul, pow-succ', zero-div}
use Rattle.std.proofs.Math.Pow.{split, high}
use Rattle.std.specs.Int.Bits.{bit_and, bit_or, block_half, block_odd, and_step, or_step}
use Rattle.std.proofs.lemmas.Nat.{and_shr, or_shr}
use Rattle.laws.specs.Compared.{by_order}
use Rattle.laws.specs.Bit.{bit, with_bit}

-- a bit is 0 or 1
pub bit_small : (w k : ℕ) → bit w k < 2
bit_small w k = omega arith

-- the lowest bit
pub bit_lowest : (w : ℕ) → bit w 0 ≡ w % 2
bit_lowest w = ap (λ (x : ℕ). x % 2) (div-one w)

-- zero has no bit
pub bit_of_zero : (k : ℕ) → bit 0 k ≡ 0
bit_of_zero k = ap (λ (x : ℕ). x % 2) (zero-div (2 ^ k))

-- a later bit is a bit of the half
pub bit_of_half : (w k : ℕ) → bit w (suc k) ≡ bit (w / 2) k
bit_of_half w k = ap (λ (x : ℕ). w / x % 2) (pow-succ' 2 k) ∙ ap (λ (x : ℕ). x % 2) (sym (div-div-eq-div-mul w 2 (2 ^ k)))

-- ---- a number and its bits

-- past its digits a number has zeros
pub bits_past : (w n k : ℕ) → w < 2 ^ n → n ≤ k → bit w k ≡ 0
bits_past w n k h l =
    let small : w < 2 ^ k = omega (arith, pow_mono l) in
    ap (λ (x : ℕ). x % 2) (div-eq_of_lt small)

-- two numbers below 2 ^ n with the same n low bits are equal
pub same_bits : (n v w : ℕ) → v < 2 ^ n → w < 2 ^ n → ((k : ℕ) → k < n → bit v k ≡ bit w k) → v ≡ w
same_bits zero v w hv hw e = omega arith
same_bits (suc n) v w hv hw e =
    let p = pow-suc 2 n in
    let halves : v / 2 ≡ w / 2 =
    same_bits n (v / 2) (w / 2) (omega (arith, p)) (omega (arith, p))
    (λ k l. sym (bit_of_half v k) ∙ e (suc k) (omega arith) ∙ bit_of_half w k) in
    let lowest : v % 2 ≡ w % 2 = sym (bit_lowest v) ∙ e 0 (omega arith) ∙ bit_lowest w in
    omega arith

-- the same, with the bits counted from 1
pub same_word : (n v w : ℕ) → v < 2 ^ n → w < 2 ^ n → ((j : ℕ) → 1 ≤ j → j ≤ n → bit v (j - 1) ≡ bit w (j - 1)) → v ≡ w
same_word n v w hv hw e =
    same_bits n v w hv hw (λ k l. let place : suc k - 1 ≡ k = omega arith in rw place at (e (suc k) (omega arith) l))

below_power : (n : ℕ) → n < 2 ^ n
below_power zero = omega arith
below_power (suc n) = omega (arith, below_power n, pow-suc 2 n)

-- two numbers with the same bits are equal
pub same_number : (v w : ℕ) → ((k : ℕ) → bit v k ≡ bit w k) → v ≡ w
same_number v w e =
    same_bits (v + w) v w (omega (arith, below_power (v + w))) (omega (arith, below_power (v + w))) (λ k l. e k)

-- a number whose bits from n on are zero is below 2 ^ n
pub below_of_bits : (w n : ℕ) → ((k : ℕ) → n ≤ k → bit w k ≡ 0) → w < 2 ^ n
below_of_bits w n e =
    let none : w / 2 ^ n ≡ 0 =
    same_number (w / 2 ^ n) 0
    (λ k. ap (λ (x : ℕ). x % 2) (shr-shr w n k) ∙ e (n + k) (omega arith) ∙ sym (bit_of_zero k)) in
    omega (arith, split w n, ap (λ (x : ℕ). x * 2 ^ n) none, mod-lt w (pow_pos n))

-- ---- bits of a high and a low part

-- bits below the seam are those of the low part
pub bit_of_low : (j k hi lo : ℕ) → j < k → bit (hi * 2 ^ k + lo) j ≡ bit lo j
bit_of_low zero zero hi lo h = absurd (omega arith)
bit_of_low (suc j) zero hi lo h = absurd (omega arith)
bit_of_low zero (suc k) hi lo h = bit_lowest (hi * 2 ^ suc k + lo) ∙ block_odd hi k lo ∙ sym (bit_lowest lo)
bit_of_low (suc j) (suc k) hi lo h =
    bit_of_half (hi * 2 ^ suc k + lo) j ∙ ap (λ (x : ℕ). bit x j) (block_half hi k lo) ∙ bit_of_low j k hi (lo / 2) (omega arith)
    ∙ sym (bit_of_half lo j)

-- bits from the seam on are those of the high part
pub bit_of_high : (j k hi lo : ℕ) → lo < 2 ^ k → bit (hi * 2 ^ k + lo) (k + j) ≡ bit hi j
bit_of_high j k hi lo h =
    ap (λ (x : ℕ). x % 2) (sym (shr-shr (hi * 2 ^ k + lo) k j)) ∙ ap (λ (x : ℕ). x / 2 ^ j % 2) (high hi k h)

-- a lower bit of a number is one of its remainder
pub bit_of_rest : (x n k : ℕ) → k < n → bit (x % 2 ^ n) k ≡ bit x k
bit_of_rest x n k h = sym (bit_of_low k n (x / 2 ^ n) (x % 2 ^ n) h) ∙ ap (λ (y : ℕ). bit y k) (split x n)

-- ---- a number with one bit changed

-- what is taken away is there
pub bit_in : (w k : ℕ) → bit w k * 2 ^ k ≤ w
bit_in w k =
    let q : w / 2 ^ k ≡ w / 2 ^ k / 2 * 2 + bit w k = omega arith in
    omega (arith, split w k, ap (λ (x : ℕ). x * 2 ^ k) q)

with_bit_parts : (w k b : ℕ) → with_bit w k b ≡ (w / 2 ^ k / 2 * 2 + b) * 2 ^ k + w % 2 ^ k
unfolding with_bit
with_bit_parts w k b =
    let q : w / 2 ^ k ≡ w / 2 ^ k / 2 * 2 + bit w k = omega arith in
    omega (arith, split w k, ap (λ (x : ℕ). x * 2 ^ k) q)

-- the changed bit is b
pub with_bit_same : (w k b : ℕ) → b ≤ 1 → bit (with_bit w k b) k ≡ b
with_bit_same w k b h =
    ap (λ (x : ℕ). bit x k) (with_bit_parts w k b)
    ∙ ap (λ (x : ℕ). x % 2) (high (w / 2 ^ k / 2 * 2 + b) k (mod-lt w (pow_pos k))) ∙ omega arith

-- the other bits stay
pub with_bit_other : (w k b j : ℕ) → b ≤ 1 → j ≢ k → bit (with_bit w k b) j ≡ bit w j
with_bit_other w k b j h d = by_order j k below (λ e. absurd (d e)) above
  where
    below : j < k → bit (with_bit w k b) j ≡ bit w j
    below l =
        ap (λ (x : ℕ). bit x j) (with_bit_parts w k b) ∙ bit_of_low j k (w / 2 ^ k / 2 * 2 + b) (w % 2 ^ k) l
        ∙ sym (bit_of_low j k (w / 2 ^ k) (w % 2 ^ k) l) ∙ ap (λ (x : ℕ). bit x j) (split w k)

    above : k < j → bit (with_bit w k b) j ≡ bit w j
    above l =
        let i = j - suc k in
        let place : j ≡ k + suc i = omega arith in
        let half : (w / 2 ^ k / 2 * 2 + b) / 2 ≡ w / 2 ^ k / 2 = omega arith in
        ap (λ (x : ℕ). bit x j) (with_bit_parts w k b)
        ∙ ap (λ (x : ℕ). bit ((w / 2 ^ k / 2 * 2 + b) * 2 ^ k + w % 2 ^ k) x) place
        ∙ bit_of_high (suc i) k (w / 2 ^ k / 2 * 2 + b) (w % 2 ^ k) (mod-lt w (pow_pos k))
        ∙ bit_of_half (w / 2 ^ k / 2 * 2 + b) i ∙ ap (λ (x : ℕ). bit x i) half
        ∙ sym (bit_of_half (w / 2 ^ k) i)
        ∙ sym (bit_of_high (suc i) k (w / 2 ^ k) (w % 2 ^ k) (mod-lt w (pow_pos k)))
        ∙ ap (λ (x : ℕ). bit (w / 2 ^ k * 2 ^ k + w % 2 ^ k) x) (sym place) ∙ ap (λ (x : ℕ). bit x j) (split w k)

-- a bit below n changed leaves the number below 2 ^ n
pub with_bit_below : (w k b n : ℕ) → w < 2 ^ n → k < n → b ≤ 1 → with_bit w k b < 2 ^ n
with_bit_below w k b n h l s =
    below_of_bits (with_bit w k b) n (λ j m. with_bit_other w k b j s (omega arith) ∙ bits_past w n j h m)

-- ---- bits of a bitwise operation, and of a power

odd_part : (q r : ℕ) → r < 2 → (q * 2 + r) % 2 ≡ r
odd_part q r h = omega arith

-- a bit of `and` is the smaller of the two
pub bit_of_and : (v w k : ℕ) → bit (bit_and v w) k ≡ min (bit v k) (bit w k)
bit_of_and v w k =
    let a = v / 2 ^ k in
    let b = w / 2 ^ k in
    ap (λ (x : ℕ). x % 2) (and_shr v w k ∙ and_step a b) ∙ odd_part (bit_and (a / 2) (b / 2)) (min (a % 2) (b % 2)) (omega arith)

-- a bit of `or` is the larger
pub bit_of_or : (v w k : ℕ) → bit (bit_or v w) k ≡ max (bit v k) (bit w k)
bit_of_or v w k =
    let a = v / 2 ^ k in
    let b = w / 2 ^ k in
    ap (λ (x : ℕ). x % 2) (or_shr v w k ∙ or_step a b) ∙ odd_part (bit_or (a / 2) (b / 2)) (max (a % 2) (b % 2)) (omega arith)

power_from_zero : (i : ℕ) → with_bit 0 i 1 ≡ 2 ^ i
unfolding with_bit
power_from_zero i = omega arith

-- 2 ^ i has bit i
pub bit_of_power : (i : ℕ) → bit (2 ^ i) i ≡ 1
bit_of_power i = rw (power_from_zero i) at (with_bit_same 0 i 1 (omega arith))

-- and no other
pub bit_of_power_other : (i j : ℕ) → j ≢ i → bit (2 ^ i) j ≡ 0
bit_of_power_other i j d =
    (rw (power_from_zero i) at (with_bit_other 0 i 1 j (omega arith) d)) ∙ bit_of_zero j
