-- Numbers held in bits: a function gives the bit at each place, and the bits of a number stand most significant first.
use Rattle.std.specs.Prelude.{ℕ, zero, suc, ◌+◌, ◌-◌, ◌*◌, ◌/◌, ◌%◌, ◌^◌, ◌<◌, ◌≡◌, refl}
use Rattle.std.proofs.Common.{sym, ap, ⊎_elim, eq-or-lt_of_le, le_of_suc-le-suc, not-suc-le-zero, pow-suc, arith, shr-shr}
use Rattle.std.proofs.Math.Pow.{high}

-- the number that the w bits of f from place a make
unfoldable pub num : (ℕ → ℕ) → ℕ → ℕ → ℕ
num f a zero = 0
num f a (suc w) = 2 * num f a w + f (a + w)

-- w bits make a number below 2 ^ w
pub num_below : (f : ℕ → ℕ) → ((k : ℕ) → f k < 2) → (a w : ℕ) → num f a w < 2 ^ w
unfolding num
num_below f small a zero = omega arith
num_below f small a (suc w) = omega (arith, num_below f small a w, small (a + w))

-- the same bits, at whatever places, make the same number
pub num_same : (f g : ℕ → ℕ) (a b w : ℕ) → ((t : ℕ) → t < w → f (a + t) ≡ g (b + t)) → num f a w ≡ num g b w
unfolding num
num_same f g a b zero same = refl
num_same f g a b (suc w) same =
    omega (arith, num_same f g a b w (λ t h. same t (omega arith)), same w (omega arith))

-- the bits of x above its lowest are those of x / 2
above_lowest : (x k : ℕ) → x / 2 ^ suc k ≡ x / 2 / 2 ^ k
above_lowest x k =
    let s : suc k ≡ 1 + k = omega arith in
    rw s (sym (shr-shr x 1 k))

-- the number is made of the function's own bits
pub num_bit : (f : ℕ → ℕ) → ((k : ℕ) → f k < 2) → (a w t : ℕ) → t < w → num f a w / 2 ^ (w - 1 - t) % 2 ≡ f (a + t)
unfolding num
num_bit f small a zero t h = absurd (not-suc-le-zero h)
num_bit f small a (suc w) t h =
    ⊎_elim
    (λ (e : t ≡ w).
    let s : suc w - 1 - t ≡ 0 = omega arith in
    let l : (2 * num f a w + f (a + w)) / 2 ^ 0 % 2 ≡ f (a + w) = omega (arith, small (a + w)) in
    rw (s, l, e))
    (λ (l : t < w).
    let s : suc w - 1 - t ≡ suc (w - 1 - t) = omega arith in
    let q : (2 * num f a w + f (a + w)) / 2 ≡ num f a w = omega (arith, small (a + w)) in
    rw (s, above_lowest, q) (num_bit f small a w t l))
    (eq-or-lt_of_le (le_of_suc-le-suc h))

-- a number below 2 ^ w is made of its own bits
pub num_own : (f : ℕ → ℕ) (a w x : ℕ) → x < 2 ^ w → ((t : ℕ) → t < w → f (a + t) ≡ x / 2 ^ (w - 1 - t) % 2) → num f a w ≡ x
unfolding num
num_own f a zero x h own = omega arith
num_own f a (suc w) x h own =
    omega (arith, num_own f a w (x / 2) (omega arith) lower, last)
  where
    lower : (t : ℕ) → t < w → f (a + t) ≡ x / 2 / 2 ^ (w - 1 - t) % 2
    lower t l =
        let s : suc w - 1 - t ≡ suc (w - 1 - t) = omega arith in
        rw (s, above_lowest) at (own t (omega arith))

    last : f (a + w) ≡ x / 2 ^ 0 % 2
    last =
        let s : suc w - 1 - w ≡ 0 = omega arith in
        rw s at (own w (omega arith))

-- zeros make 0
pub num_of_zeros : (f : ℕ → ℕ) (a w : ℕ) → ((t : ℕ) → t < w → f (a + t) ≡ 0) → num f a w ≡ 0
unfolding num
num_of_zeros f a zero zeros = refl
num_of_zeros f a (suc w) zeros =
    omega (arith, num_of_zeros f a w (λ t h. zeros t (omega arith)), zeros w (omega arith))

-- and only they do
pub zeros_of_num : (f : ℕ → ℕ) (a w : ℕ) → num f a w ≡ 0 → (t : ℕ) → t < w → f (a + t) ≡ 0
unfolding num
zeros_of_num f a zero e t h = absurd (not-suc-le-zero h)
zeros_of_num f a (suc w) e t h =
    ⊎_elim (λ (q : t ≡ w). rw q (omega arith)) (λ (l : t < w). zeros_of_num f a w (omega arith) t l)
    (eq-or-lt_of_le (le_of_suc-le-suc h))

-- ---- parts of a number

-- t bits and w more
pub num_append : (f : ℕ → ℕ) (a t w : ℕ) → num f a (t + w) ≡ num f a t * 2 ^ w + num f (a + t) w
unfolding num
num_append f a t zero = let e : t + 0 ≡ t = omega arith in rw e (omega arith)
num_append f a t (suc w) =
    let e : t + suc w ≡ suc (t + w) = omega arith in
    let s : a + (t + w) ≡ a + t + w = omega arith in
    rw (e, s) (omega (arith, num_append f a t w, ap (λ (x : ℕ). num f a t * x) (pow-suc 2 w)))

-- the first bits are the quotient
pub num_top : (f : ℕ → ℕ) → ((k : ℕ) → f k < 2) → (a w v : ℕ) → num f a (w + v) / 2 ^ v ≡ num f a w
num_top f small a w v = rw (num_append f a w v) (high (num f a w) v (num_below f small (a + w) v))
