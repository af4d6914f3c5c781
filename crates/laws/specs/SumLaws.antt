-- Sums of f 1, .., f n, of f along a list, and of a number's bits.
use Rattle.std.specs.Prelude.{ℕ, zero, suc, ◌+◌, ◌-◌, ◌/◌, ◌%◌, ◌^◌, ◌≤◌, ◌<◌, ◌≡◌, refl, ◌≢◌, List, [], ◌∷◌, ◌++◌}
use Rattle.std.proofs.Common.{lt_of_lt_of_le, div-one, pow-suc, arith, sym, ap, ap₂, ◌∙◌, pow_mono}
use Rattle.std.proofs.Math.Nat.{div-div-eq-div-mul, pow-succ'}
use Rattle.std.proofs.Math.Decide.{ℕ_discrete}
use Rattle.std.proofs.Math.Arith.{lt-one}
use Rattle.std.specs.Int.Count.{ones, ones_step}
use Rattle.laws.specs.Bit.{bit}
use Rattle.laws.specs.UpTo.{sum_up_to}
use Rattle.laws.specs.UpToLaws.{sum_zero}

-- ---- f 1 + .. + f n

-- a function that is 0 past n adds nothing there
pub sum_up_to_past : (f : ℕ → ℕ) (n k : ℕ) → ((i : ℕ) → n < i → f i ≡ 0) → sum_up_to f (n + k) ≡ sum_up_to f n
unfolding sum_up_to
sum_up_to_past f n zero h = let e : n + 0 ≡ n = omega arith in rw e
sum_up_to_past f n (suc k) h =
    let e : n + suc k ≡ suc (n + k) = omega arith in
    let z : f (suc (n + k)) ≡ 0 = h (suc (n + k)) (omega arith) in
    rw e (omega (arith, sum_up_to_past f n k h))

-- a function that is 0 on 1..n but at v adds up to its value there
pub sum_up_to_one : (f : ℕ → ℕ) (n v : ℕ) → 1 ≤ v → v ≤ n → ((i : ℕ) → 1 ≤ i → i ≤ n → i ≢ v → f i ≡ 0) → sum_up_to f n ≡ f v
unfolding sum_up_to
sum_up_to_one f zero v l r h = absurd (omega arith)
sum_up_to_one f (suc n) v l r h = go (λ q. sum_up_to_one f n v l q (λ i p s. h i p (omega arith))) (ℕ_discrete v (suc n))
  where
    go : (v ≤ n → sum_up_to f n ≡ f v) → Dec (v ≡ suc n) → sum_up_to f n + f (suc n) ≡ f v
    go rest (yes e) = omega (arith, sum_zero f n (λ i p s. h i p (omega arith) (omega arith)), ap f e)
    go rest (no d) = omega (arith, rest (omega arith), h (suc n) (omega arith) (omega arith) (λ e. d (sym e)))

-- ---- f i + f (i + 1) + ..

-- m numbers from f i on
unfoldable pub sum_from : (ℕ → ℕ) → ℕ → ℕ → ℕ
sum_from f i zero = 0
sum_from f i (suc m) = f i + sum_from f (suc i) m

-- the last number stands apart
pub sum_from_last : (f : ℕ → ℕ) (i m : ℕ) → sum_from f i (suc m) ≡ sum_from f i m + f (i + m)
unfolding sum_from
sum_from_last f i zero = let e : i + 0 ≡ i = omega arith in rw e (omega arith)
sum_from_last f i (suc m) =
    let e : i + suc m ≡ suc i + m = omega arith in
    rw e (omega (arith, sum_from_last f (suc i) m))

-- from 1 on it is f 1 + .. + f n
pub sum_from_up_to : (f : ℕ → ℕ) (n : ℕ) → sum_from f 1 n ≡ sum_up_to f n
unfolding sum_from sum_up_to
sum_from_up_to f zero = refl
sum_from_up_to f (suc n) = let e : 1 + n ≡ suc n = omega arith in sum_from_last f 1 n ∙ ap₂ ◌+◌ (sum_from_up_to f n) (ap f e)

-- two functions that agree have the same sum
pub sum_from_same : (f g : ℕ → ℕ) (i m : ℕ) → ((k : ℕ) → f k ≡ g k) → sum_from f i m ≡ sum_from g i m
unfolding sum_from
sum_from_same f g i zero h = refl
sum_from_same f g i (suc m) h = ap₂ ◌+◌ (h i) (sum_from_same f g (suc i) m h)

-- the sum of f + g is the sum of f and the sum of g
pub sum_from_add : (f g : ℕ → ℕ) (i m : ℕ) → sum_from (λ k. f k + g k) i m ≡ sum_from f i m + sum_from g i m
unfolding sum_from
sum_from_add f g i zero = refl
sum_from_add f g i (suc m) = omega (arith, sum_from_add f g (suc i) m)

-- ---- along a list

-- the sum of f over the elements
unfoldable pub sum_along : {A : Type 0} → (A → ℕ) → List A → ℕ
sum_along f [] = 0
sum_along f (x ∷ xs) = f x + sum_along f xs

-- along two lists joined it is the sum along each
pub sum_along_append : {A : Type 0} (f : A → ℕ) (s t : List A) → sum_along f (s ++ t) ≡ sum_along f s + sum_along f t
unfolding sum_along
sum_along_append f [] t = omega arith
sum_along_append f (x ∷ s) t = omega (arith, sum_along_append f s t)

-- ---- the ones of a number

-- bit k + 1 is bit k of the half
next_bit : (w k : ℕ) → bit w (suc k) ≡ bit (w / 2) k
next_bit w k = ap (λ (x : ℕ). x % 2) (ap (λ (x : ℕ). w / x) (pow-succ' 2 k) ∙ sym (div-div-eq-div-mul w 2 (2 ^ k)))

-- the same numbers, counted from one place further
sum_from_shift : (f : ℕ → ℕ) (i m : ℕ) → sum_from (λ k. f (suc k)) i m ≡ sum_from f (suc i) m
unfolding sum_from
sum_from_shift f i zero = refl
sum_from_shift f i (suc m) = ap (λ (x : ℕ). f (suc i) + x) (sum_from_shift f (suc i) m)

-- the lowest bit, and the bits of the half
ones_bits : (n w : ℕ) → w < 2 ^ n → ones w ≡ sum_from (bit w) 0 n
unfolding sum_from ones
ones_bits zero w h = ap ones (lt-one h)
ones_bits (suc n) w h =
    ones_step w
    ∙ ap₂ ◌+◌ (ap (λ (x : ℕ). x % 2) (sym (div-one w)))
    (ones_bits n (w / 2) (omega (arith, pow-suc 2 n)) ∙ sym (sum_from_same (λ k. bit w (suc k)) (bit (w / 2)) 0 n (next_bit w)) ∙ sum_from_shift (bit w) 0 n)

-- the ones of a number of n bits are the sum of its bits
pub ones_sum : (n w : ℕ) → w < 2 ^ n → ones w ≡ sum_up_to (λ j. bit w (j - 1)) n
ones_sum n w h =
    let at : (k : ℕ) → bit w k ≡ bit w (suc k - 1) = λ k. let e : k ≡ suc k - 1 = omega arith in ap (bit w) e in
    ones_bits n w h ∙ sum_from_same (bit w) (λ k. bit w (suc k - 1)) 0 n at ∙ sum_from_shift (λ j. bit w (j - 1)) 0 n ∙ sum_from_up_to (λ j. bit w (j - 1)) n

-- w has at most w bits
below_pow : (w : ℕ) → w < 2 ^ w
below_pow zero = omega arith
below_pow (suc w) = omega (arith, below_pow w, pow-suc 2 w)

-- the same for a number whose bits past n are 0
pub ones_sum_low : (n w : ℕ) → ((j : ℕ) → n < j → bit w (j - 1) ≡ 0) → ones w ≡ sum_up_to (λ j. bit w (j - 1)) n
ones_sum_low n w h =
    ones_sum (n + w) w (lt_of_lt_of_le (below_pow w) (pow_mono (omega arith))) ∙ sum_up_to_past (λ j. bit w (j - 1)) n w h
