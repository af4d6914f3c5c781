-- What a loop over 1..n needs of a test, a sum, a word or a list that it builds: where it starts, what a turn adds, what it has when it stops.
use Rattle.std.specs.Prelude.{ℕ, ◌+◌, ◌*◌, ◌^◌, ◌≤◌, ◌<◌, ◌≡◌, refl, Bool, true, false}
use Rattle.std.proofs.Common.{one-mul, pow-suc, mul-le-mul_right, lt_of_lt_of_le, add-one, arith, sym, ap, ◌∙◌, pow_mono}
use Rattle.laws.specs.Test.{both}
use Rattle.laws.specs.UpTo.{all_up_to, sum_up_to, word_up_to}
use Rattle.laws.specs.UpToLaws.{all_fail}

-- ---- a test of each

pub all_starts : (f : ℕ → Bool) → all_up_to f 0 ≡ true
unfolding all_up_to
all_starts f = refl

-- one more that holds
pub all_turns : (f : ℕ → Bool) (n : ℕ) (r : Bool) → all_up_to f n ≡ true → r ≡ f (n + 1) → r ≡ true → all_up_to f (n + 1) ≡ true
unfolding all_up_to both
all_turns f n r h e here = rw (add-one n) (rw h (rw (add-one n) at (sym e ∙ here)))

-- all were tried
pub all_done : (f : ℕ → Bool) (m n : ℕ) → all_up_to f m ≡ true → m ≤ n → n ≤ m → true ≡ all_up_to f n
all_done f m n h p q = let e : m ≡ n = omega arith in sym h ∙ ap (all_up_to f) e

-- one that fails
pub all_stops : (f : ℕ → Bool) (m n : ℕ) (r : Bool) → r ≡ f (m + 1) → r ≡ false → m < n → false ≡ all_up_to f n
all_stops f m n r e here l = sym (all_fail f n (m + 1) (omega arith) (omega arith) (sym e ∙ here))

-- ---- a sum

pub sum_starts : (f : ℕ → ℕ) → 0 ≡ sum_up_to f 0
unfolding sum_up_to
sum_starts f = refl

pub sum_turns : (f : ℕ → ℕ) (n s r : ℕ) → s ≡ sum_up_to f n → r ≡ f (n + 1) → s + r ≡ sum_up_to f (n + 1)
unfolding sum_up_to
sum_turns f n s r h e = rw (add-one n) (rw (← h, e, add-one n))

pub sum_done : (f : ℕ → ℕ) (m n s : ℕ) → s ≡ sum_up_to f m → m ≤ n → n ≤ m → s ≡ sum_up_to f n
sum_done f m n s h p q = let e : m ≡ n = omega arith in h ∙ ap (sum_up_to f) e

-- ---- a word, from its bits

pub word_starts : (f : ℕ → ℕ) → 0 ≡ word_up_to f 0
unfolding word_up_to
word_starts f = refl

pub word_turns : (f : ℕ → ℕ) (n w r : ℕ) → w ≡ word_up_to f n → r ≡ f (n + 1) * 2 ^ n → w + r ≡ word_up_to f (n + 1)
unfolding word_up_to
word_turns f n w r h e = rw (add-one n) (rw (← h, e, add-one n))

pub word_done : (f : ℕ → ℕ) (m n w : ℕ) → w ≡ word_up_to f m → m ≤ n → n ≤ m → w ≡ word_up_to f n
word_done f m n w h p q = let e : m ≡ n = omega arith in h ∙ ap (word_up_to f) e

-- a word of j bits with one more at j has j + 1 bits, and so it fits 32 where j is below some n that does
pub word_grows : (w b r j : ℕ) → w < 2 ^ j → b ≤ 1 → r ≡ b * 2 ^ j → w + r < 2 ^ (j + 1)
word_grows w b r j h l e =
    let m : b * 2 ^ j ≤ 1 * 2 ^ j = mul-le-mul_right (2 ^ j) l in
    rw (add-one j) (omega (arith, pow-suc 2 j, one-mul (2 ^ j)))

pub word_fits : (w b r j n : ℕ) → w < 2 ^ j → b ≤ 1 → r ≡ b * 2 ^ j → j < n → n ≤ 32 → w + r < 2 ^ 32
word_fits w b r j n h l e k m = lt_of_lt_of_le (word_grows w b r j h l e) (pow_mono {j = 32} (omega arith))
