-- Bits of bytes, and the numbers that they make.
use Prim.Native.Nat.{ℕ, ◌+◌, ◌-◌, ◌*◌, ◌/◌, ◌%◌, ◌^◌, ◌≤◌, ◌<◌}
use mathlib.Core.Path.{◌≡◌, refl, sym, ap, ◌∙◌}
use mathlib.Core.List.{List}
use native.Mathlib.Nat.{lt_of_lt_of_le, le_antisymm, zero-div, mod-lt, mod-eq_of_lt}
use native.Mathlib.Numerals.{add-one}
use native.Mathlib.Omega.{arith}
use lib.ListN.{length, get_or, get_or-eq_default}
use lib.Pow.{pow_mono, pow_pos}
use Rattle.laws.specs.BitLaws.{bit_of_rest}
use Rattle.laws.specs.Num.{num, num_below, num_own, num_top}
use Rattle.fields.specs.Bits.{bit_of}

-- a bit is 0 or 1
pub bit_small : (s : List ℕ) (k : ℕ) → bit_of s k < 2
unfolding bit_of
bit_small s k = omega arith

-- a bit by the byte in which it stands and its place there
pub bit_there : (s : List ℕ) (place ahead w : ℕ) → w ≡ get_or s (place / 8 + (place % 8 + ahead) / 8) 0
    → w / 2 ^ (7 - (place % 8 + ahead) % 8) % 2 ≡ bit_of s (place + ahead)
unfolding bit_of
bit_there s place ahead w is_w =
    let b : (place + ahead) / 8 ≡ place / 8 + (place % 8 + ahead) / 8 = omega arith in
    let o : (place + ahead) % 8 ≡ (place % 8 + ahead) % 8 = omega arith in
    rw (b, o, is_w)

-- past the bytes each bit is 0
pub bit_past : (s : List ℕ) (place ahead : ℕ) → length s ≤ place / 8 + (place % 8 + ahead) / 8 → 0 ≡ bit_of s (place + ahead)
bit_past s place ahead h =
    let z : get_or s (place / 8 + (place % 8 + ahead) / 8) 0 ≡ 0 = get_or-eq_default s 0 h in
    sym (ap (λ (x : ℕ). x % 2) (zero-div (2 ^ (7 - (place % 8 + ahead) % 8)))) ∙ bit_there s place ahead 0 (sym z)

-- ---- bits of one byte

-- the last w bits of byte k
pub last_bits : (s : List ℕ) (k a w x : ℕ) → a + w ≡ 8 * k + 8 → w ≤ 8 → x ≡ get_or s k 0 → num (bit_of s) a w ≡ x % 2 ^ w
unfolding bit_of
last_bits s k a w x e h is_x = num_own (bit_of s) a w (x % 2 ^ w) (mod-lt x (pow_pos w)) own
  where
    own : (t : ℕ) → t < w → get_or s ((a + t) / 8) 0 / 2 ^ (7 - (a + t) % 8) % 2 ≡ x % 2 ^ w / 2 ^ (w - 1 - t) % 2
    own t l =
        let b : (a + t) / 8 ≡ k = omega arith in
        let o : 7 - (a + t) % 8 ≡ w - 1 - t = omega arith in
        rw (b, o, ← is_x) (sym (bit_of_rest x w (w - 1 - t) (omega arith)))

-- the first w bits of byte k
pub first_bits : (s : List ℕ) (k w x : ℕ) → w ≤ 8 → x ≡ get_or s k 0 → x < 256 → num (bit_of s) (8 * k) w ≡ x / 2 ^ (8 - w)
first_bits s k w x h is_x small =
    let e : w + (8 - w) ≡ 8 = omega arith in
    let z : x % 2 ^ 8 ≡ x = mod-eq_of_lt small in
    sym (num_top (bit_of s) (bit_small s) (8 * k) w (8 - w))
    ∙ ap (λ (y : ℕ). y / 2 ^ (8 - w)) (ap (num (bit_of s) (8 * k)) e ∙ last_bits s k (8 * k) 8 x refl (omega arith) is_x ∙ z)

-- ---- numbers, bit by bit

-- no bits make 0
pub number_none : (f : ℕ → ℕ) (a : ℕ) → 0 ≡ num f a 0
unfolding num
number_none f a = refl

-- one bit more
pub number_turn : (f : ℕ → ℕ) (a t made b : ℕ) → made ≡ num f a t → b ≡ f (a + t) → 2 * made + b ≡ num f a (t + 1)
unfolding num
number_turn f a t made b is_made is_b = rw (add-one, is_made, is_b)

-- up to 7 bits make a number below 128
pub number_small : (s : List ℕ) (a t made : ℕ) → made ≡ num (bit_of s) a t → t ≤ 7 → made < 128
number_small s a t made is_made h = rw is_made (lt_of_lt_of_le (num_below (bit_of s) (bit_small s) a t) (pow_mono h))

-- so it is with one bit more
pub number_turn_small : (s : List ℕ) (a w t made b : ℕ) → made ≡ num (bit_of s) a t → b ≡ bit_of s (a + t) → t < w → w ≤ 7 → 2 * made + b < 128
number_turn_small s a w t made b is_made is_b l h =
    number_small s a (t + 1) (2 * made + b) (number_turn (bit_of s) a t made b is_made is_b) (omega arith)

-- all w bits
pub number_done : (f : ℕ → ℕ) (a t w made : ℕ) → made ≡ num f a t → t ≤ w → w ≤ t → made ≡ num f a w
number_done f a t w made is_made l h = rw (le_antisymm h l) is_made
