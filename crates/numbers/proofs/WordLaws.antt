-- A number of many bits, taken from eight bytes and one more.
use Prim.Native.Nat.{ℕ, ◌+◌, ◌-◌, ◌*◌, ◌/◌, ◌%◌, ◌^◌, ◌≤◌, ◌<◌}
use mathlib.Core.Path.{◌≡◌, refl, sym, ap, ap₂, ◌∙◌}
use mathlib.Core.List.{List, [], ◌∷◌}
use native.Mathlib.Nat.{lt_of_lt_of_le, mul-mod_left, add-zero}
use native.Mathlib.Omega.{arith}
use lib.ListN.{length, get_or, get_or-eq_default}
use lib.Pow.{low, mod-pow-add, pow_mono, shl-shr, shr-shr}
use mir.Syntax.{w8, w64}
use Rattle.std.specs.Int.{from_be_bytes}
use mir.Val.{Fits}
use Rattle.laws.specs.Num.{num, num_append, num_below, num_of_zeros, num_top}
use Rattle.fields.specs.Bits.{bit_of}
use Rattle.fields.proofs.BitLaws.{bit_small, bit_past, first_bits}

-- past the bytes there is 0
pub byte_past : (s : List ℕ) (k : ℕ) → length s ≤ k → 0 ≡ get_or s k 0
byte_past s k h = sym (get_or-eq_default s 0 h)

-- ---- bytes one after the other

-- the number of one byte
byte_is : (s : List ℕ) (k x : ℕ) → x ≡ get_or s k 0 → x < 256 → x ≡ num (bit_of s) (8 * k) 8
byte_is s k x is_x h = let e : x ≡ x / 2 ^ (8 - 8) = omega arith in e ∙ sym (first_bits s k 8 x (omega arith) is_x h)

pub bytes_start : (s : List ℕ) (k : ℕ) → 0 ≡ num (bit_of s) (8 * k) (8 * 0)
unfolding num
bytes_start s k = refl

module _ (s : List ℕ) (k t made x : ℕ) (is_made : made ≡ num (bit_of s) (8 * k) (8 * t)) (is_x : x ≡ get_or s (k + t) 0) (small : x < 256) where
  pub bytes_more : made * 256 + x ≡ num (bit_of s) (8 * k) (8 * (t + 1))
  bytes_more =
      let e : 8 * (t + 1) ≡ 8 * t + 8 = omega arith in
      let at : 8 * k + 8 * t ≡ 8 * (k + t) = omega arith in
      sym (ap (num (bit_of s) (8 * k)) e ∙ num_append (bit_of s) (8 * k) (8 * t) 8
      ∙ ap₂ (λ (y z : ℕ). y * 256 + z) (sym is_made) (ap (λ (a : ℕ). num (bit_of s) a 8) at ∙ sym (byte_is s (k + t) x is_x small)))

  -- which fits
  pub bytes_fit : t < 8 → Fits w64 (made * 256 + x)
  bytes_fit l =
      record { fits = rw bytes_more (lt_of_lt_of_le (num_below (bit_of s) (bit_small s) (8 * k) (8 * (t + 1))) (pow_mono {j = 64} (omega arith))) }

pub times_fit : (s : List ℕ) (k t made : ℕ) → made ≡ num (bit_of s) (8 * k) (8 * t) → t < 8 → Fits w64 (made * 256)
times_fit s k t made is_made l =
    record { fits = omega (arith, is_made, num_below (bit_of s) (bit_small s) (8 * k) (8 * t), pow_mono {i = 8 * t} {j = 56} (omega arith)) }

pub bytes_done : (s : List ℕ) (k t made : ℕ) → made ≡ num (bit_of s) (8 * k) (8 * t) → t ≤ 8 → 8 ≤ t
    → made ≡ num (bit_of s) (8 * k) 64
bytes_done s k t made is_made a b = let e : 8 * t ≡ 64 = omega arith in is_made ∙ ap (num (bit_of s) (8 * k)) e

-- ---- eight bytes at once

module _ (s : List ℕ) (k : ℕ) (small : (i : ℕ) → Fits w8 (get_or s i 0)) where
  abbrev byte : ℕ → ℕ
  byte i = get_or s (k + i) 0

  below : (i : ℕ) → byte i < 256
  below i = (small (k + i)).fits

  pub eight_is : (r : ℕ) → r ≡ from_be_bytes w64 (get_or s k 0 ∷ byte 1 ∷ byte 2 ∷ byte 3 ∷ byte 4 ∷ byte 5 ∷ byte 6 ∷ byte 7 ∷ []) → r ≡ num (bit_of s) (8 * k) 64
  eight_is r e =
      let one : ℕ = get_or s k 0 in
      let whole : ((((((one * 256 + byte 1) * 256 + byte 2) * 256 + byte 3) * 256 + byte 4) * 256 + byte 5) * 256 + byte 6) * 256 + byte 7 ≡ num (bit_of s) (8 * k) 64
      = bytes_more s k 7 _ (byte 7)
      (bytes_more s k 6 _ (byte 6)
      (bytes_more s k 5 _ (byte 5)
      (bytes_more s k 4 _ (byte 4) (bytes_more s k 3 _ (byte 3) (bytes_more s k 2 _ (byte 2) (bytes_more s k 1 one (byte 1) (byte_is s k one refl (small k).fits) refl (below 1)) refl (below 2)) refl (below 3)) refl (below 4)) refl (below 5))
      refl (below 6))
      refl (below 7) in
      omega arith

-- what is shifted out is cut off
moved : (f : ℕ → ℕ) → ((k : ℕ) → f k < 2) → (a p q w : ℕ) → w ≡ num f a (p + q)
    → w * 2 ^ p % 2 ^ (q + p) ≡ num f (a + p) q * 2 ^ p
moved f small a p q w is_w =
    mod-pow-add (w * 2 ^ p) q p
    ∙ ap₂ (λ (x y : ℕ). x % 2 ^ q * 2 ^ p + y) (shl-shr w p) (mul-mod_left w (2 ^ p))
    ∙ add-zero (w % 2 ^ q * 2 ^ p)
    ∙ ap (λ (x : ℕ). x * 2 ^ p) (ap (λ (x : ℕ). x % 2 ^ q) (is_w ∙ num_append f a p q) ∙ low (num f a p) q (num_below f small (a + p) q))

-- past the bytes there are zeros
zeros_past : (s : List ℕ) (a w : ℕ) → 8 * length s ≤ a → num (bit_of s) a w ≡ 0
zeros_past s a w h = num_of_zeros (bit_of s) a w (λ t l. sym (bit_past s a t (omega arith)))

pub nothing_past : (s : List ℕ) (k : ℕ) → length s ≤ k → 0 ≡ num (bit_of s) (8 * k) 64
nothing_past s k h = sym (zeros_past s (8 * k) 64 (omega arith))

-- the last eight bytes, moved up to where byte k is the first
pub last_moved : (s : List ℕ) (k w : ℕ) → w ≡ num (bit_of s) (8 * (length s - 8)) 64 → 8 ≤ length s → k < length s
    → length s < k + 8
    → w * 2 ^ (8 * (k + 8 - length s)) % 2 ^ 64 ≡ num (bit_of s) (8 * k) 64
last_moved s k w is_w some inside short = go (8 * (k + 8 - length s)) (64 - 8 * (k + 8 - length s)) (omega arith) (omega arith) (omega arith)
  where
    go : (p q : ℕ) → p + q ≡ 64 → 8 * (length s - 8) + p ≡ 8 * k → 8 * k + q ≡ 8 * length s
        → w * 2 ^ p % 2 ^ 64 ≡ num (bit_of s) (8 * k) 64
    go p q e at end =
        let e' : q + p ≡ 64 = omega arith in
        ap (λ (n : ℕ). w * 2 ^ p % 2 ^ n) (sym e')
        ∙ moved (bit_of s) (bit_small s) (8 * (length s - 8)) p q w (is_w ∙ ap (num (bit_of s) (8 * (length s - 8))) (sym e))
        ∙ ap (λ (a : ℕ). num (bit_of s) a q * 2 ^ p) at
        ∙ sym (ap (num (bit_of s) (8 * k)) (sym e') ∙ num_append (bit_of s) (8 * k) q p
        ∙ ap (λ (x : ℕ). num (bit_of s) (8 * k) q * 2 ^ p + x) (zeros_past s (8 * k + q) p (omega arith))
        ∙ add-zero (num (bit_of s) (8 * k) q * 2 ^ p))

-- ---- from any place

module _ (s : List ℕ) (place w b : ℕ) (is_w : w ≡ num (bit_of s) (8 * (place / 8)) 64) (is_b : b ≡ get_or s (place / 8 + 8) 0) (small : b < 256) where
  abbrev whole : ℕ
  whole = w * 2 ^ (place % 8) % 2 ^ 64 + b / 2 ^ (8 - place % 8)

  whole_is : whole ≡ num (bit_of s) place 64
  whole_is = go (place % 8) (64 - place % 8) (omega arith) (omega arith) (omega arith) refl
    where
      go : (p q : ℕ) → p < 8 → p + q ≡ 64 → 8 * (place / 8) + p ≡ place → p ≡ place % 8
          → w * 2 ^ p % 2 ^ 64 + b / 2 ^ (8 - p) ≡ num (bit_of s) place 64
      go p q l e at is_p =
          let e' : q + p ≡ 64 = omega arith in
          let on : place + q ≡ 8 * (place / 8 + 8) = omega arith in
          ap₂ ◌+◌ (ap (λ (n : ℕ). w * 2 ^ p % 2 ^ n) (sym e') ∙ moved (bit_of s) (bit_small s) (8 * (place / 8)) p q w (is_w ∙ ap (num (bit_of s) (8 * (place / 8))) (sym e)) ∙ ap (λ (a : ℕ). num (bit_of s) a q * 2 ^ p) at)
          (sym (first_bits s (place / 8 + 8) p b (omega arith) is_b small) ∙ ap (λ (a : ℕ). num (bit_of s) a p) (sym on))
          ∙ sym (ap (num (bit_of s) place) (sym e') ∙ num_append (bit_of s) place q p)

  pub whole_fits : Fits w64 (w * 2 ^ (place % 8) % 2 ^ 64 + b / 2 ^ (8 - place % 8))
  whole_fits = record { fits = rw whole_is (num_below (bit_of s) (bit_small s) place 64) }

  pub bits_are : (width : ℕ) → width ≤ 62
      → (w * 2 ^ (place % 8) % 2 ^ 64 + b / 2 ^ (8 - place % 8)) / 2 / 2 ^ (63 - width) ≡ num (bit_of s) place width
  bits_are width l =
      let e : 1 + (63 - width) ≡ 64 - width = omega arith in
      let d : 64 ≡ width + (64 - width) = omega arith in
      shr-shr whole 1 (63 - width) ∙ ap (λ (k : ℕ). whole / 2 ^ k) e
      ∙ ap (λ (x : ℕ). x / 2 ^ (64 - width)) (whole_is ∙ ap (num (bit_of s) place) d)
      ∙ num_top (bit_of s) (bit_small s) place width (64 - width)
