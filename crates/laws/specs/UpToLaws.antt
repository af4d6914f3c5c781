-- Laws of what is made of f 1, .., f n.
use Rattle.std.specs.Prelude.{ℕ, zero, suc, ◌+◌, ◌-◌, ◌*◌, ◌^◌, ◌≤◌, ◌<◌, ◌≡◌, refl, Bool, true, false, List, [], ◌∷◌, ◌++◌, length, get_or}
use Rattle.std.proofs.Common.{sym, ap, ap₂, ◌∙◌, ⊎_elim, pow-suc, mul-le-mul_right, mod-eq_of_lt, arith, length-append}
use Rattle.std.proofs.Math.Nat.{le-suc_iff}
use Rattle.std.proofs.Math.ListN.{get_or-append}
use Rattle.std.proofs.lemmas.List.{get_or_at}
use Rattle.laws.specs.TestLaws.{both_first, both_second, both_hold, first_fails, second_fails}
use Rattle.laws.specs.Bit.{bit}
use Rattle.laws.specs.BitLaws.{bit_lowest, bit_of_low, bit_of_high, bits_past, same_word}
use Rattle.laws.specs.UpTo.{all_up_to, sum_up_to, word_up_to, list_up_to}

-- ---- tests

-- a test that holds at each of 1..n holds at any one
pub all_at : (f : ℕ → Bool) (n : ℕ) → all_up_to f n ≡ true → (k : ℕ) → 1 ≤ k → k ≤ n → f k ≡ true
unfolding all_up_to
all_at f zero e k l h = absurd (omega arith)
all_at f (suc n) e k l h =
    ⊎_elim (λ (m : k ≤ n). all_at f n (both_first (all_up_to f n) (f (suc n)) e) k l m)
    (λ (q : k ≡ suc n). rw q (both_second (all_up_to f n) (f (suc n)) e))
    (le-suc_iff.0 h)

-- a test that holds at each one holds at all
pub all_hold : (f : ℕ → Bool) (n : ℕ) → ((k : ℕ) → 1 ≤ k → k ≤ n → f k ≡ true) → all_up_to f n ≡ true
unfolding all_up_to
all_hold f zero e = refl
all_hold f (suc n) e =
    both_hold (all_up_to f n) (f (suc n)) (all_hold f n (λ k l h. e k l (omega arith))) (e (suc n) (omega arith) (omega arith))

-- a test that fails at one fails
pub all_fail : (f : ℕ → Bool) (n k : ℕ) → 1 ≤ k → k ≤ n → f k ≡ false → all_up_to f n ≡ false
unfolding all_up_to
all_fail f zero k l h e = absurd (omega arith)
all_fail f (suc n) k l h e =
    ⊎_elim (λ (m : k ≤ n). first_fails (all_up_to f n) (f (suc n)) (all_fail f n k l m e))
    (λ (q : k ≡ suc n). second_fails (all_up_to f n) (f (suc n)) (rw q at e))
    (le-suc_iff.0 h)

-- ---- sums

-- sums of functions that agree on 1..n
pub sum_same : (f g : ℕ → ℕ) (n : ℕ) → ((k : ℕ) → 1 ≤ k → k ≤ n → f k ≡ g k) → sum_up_to f n ≡ sum_up_to g n
unfolding sum_up_to
sum_same f g zero e = refl
sum_same f g (suc n) e = ap₂ ◌+◌ (sum_same f g n (λ k l h. e k l (omega arith))) (e (suc n) (omega arith) (omega arith))

-- a sum of zeros
pub sum_zero : (f : ℕ → ℕ) (n : ℕ) → ((k : ℕ) → 1 ≤ k → k ≤ n → f k ≡ 0) → sum_up_to f n ≡ 0
unfolding sum_up_to
sum_zero f zero e = refl
sum_zero f (suc n) e = omega (arith, sum_zero f n (λ k l h. e k l (omega arith)), e (suc n) (omega arith) (omega arith))

-- the sum of sums
pub sum_added : (h f g : ℕ → ℕ) (n : ℕ) → ((k : ℕ) → 1 ≤ k → k ≤ n → h k ≡ f k + g k) → sum_up_to h n ≡ sum_up_to f n + sum_up_to g n
unfolding sum_up_to
sum_added h f g zero e = refl
sum_added h f g (suc n) e = omega (arith, sum_added h f g n (λ k l m. e k l (omega arith)), e (suc n) (omega arith) (omega arith))

-- a longer sum is no smaller
pub sum_longer : (f : ℕ → ℕ) (m n : ℕ) → m ≤ n → sum_up_to f m ≤ sum_up_to f n
unfolding sum_up_to
sum_longer f zero zero h = omega arith
sum_longer f (suc m) zero h = absurd (omega arith)
sum_longer f m (suc n) h =
    ⊎_elim (λ (l : m ≤ n). omega (arith, sum_longer f m n l)) (λ (q : m ≡ suc n). rw q (omega arith)) (le-suc_iff.0 h)

-- ---- words

-- a word of n bits is below 2 ^ n
pub word_below : (f : ℕ → ℕ) (n : ℕ) → ((k : ℕ) → 1 ≤ k → k ≤ n → f k ≤ 1) → word_up_to f n < 2 ^ n
unfolding word_up_to
word_below f zero e = omega arith
word_below f (suc n) e =
    let top : f (suc n) * 2 ^ n ≤ 1 * 2 ^ n = mul-le-mul_right (2 ^ n) (e (suc n) (omega arith) (omega arith)) in
    omega (arith, word_below f n (λ k l h. e k l (omega arith)), pow-suc 2 n)

-- bit j - 1 of the word is f j
pub word_bit : (f : ℕ → ℕ) (n j : ℕ) → ((k : ℕ) → 1 ≤ k → k ≤ n → f k ≤ 1) → 1 ≤ j → j ≤ n → bit (word_up_to f n) (j - 1) ≡ f j
unfolding word_up_to
word_bit f zero j e l h = absurd (omega arith)
word_bit f (suc n) j e l h =
    let before : (k : ℕ) → 1 ≤ k → k ≤ n → f k ≤ 1 = λ k l h. e k l (omega arith) in
    let parts : word_up_to f n + f (suc n) * 2 ^ n ≡ f (suc n) * 2 ^ n + word_up_to f n = omega arith in
    let top : f (suc n) ≤ 1 = e (suc n) (omega arith) (omega arith) in
    ap (λ (x : ℕ). bit x (j - 1)) parts
    ∙ ⊎_elim
    (λ (m : j ≤ n). bit_of_low (j - 1) n (f (suc n)) (word_up_to f n) (omega arith) ∙ word_bit f n j before l m)
    (λ (q : j ≡ suc n).
    let place : j - 1 ≡ n + 0 = omega arith in
    ap (λ (x : ℕ). bit (f (suc n) * 2 ^ n + word_up_to f n) x) place
    ∙ bit_of_high 0 n (f (suc n)) (word_up_to f n) (word_below f n before) ∙ bit_lowest (f (suc n))
    ∙ mod-eq_of_lt (omega arith) ∙ ap f (sym q))
    (le-suc_iff.0 h)

-- past the n bits there are zeros
pub word_past : (f : ℕ → ℕ) (n j : ℕ) → ((k : ℕ) → 1 ≤ k → k ≤ n → f k ≤ 1) → n < j → bit (word_up_to f n) (j - 1) ≡ 0
word_past f n j e h = bits_past (word_up_to f n) n (j - 1) (word_below f n e) (omega arith)

-- words of functions that agree on 1..n
pub word_same : (f g : ℕ → ℕ) (n : ℕ) → ((k : ℕ) → 1 ≤ k → k ≤ n → f k ≡ g k) → word_up_to f n ≡ word_up_to g n
unfolding word_up_to
word_same f g zero e = refl
word_same f g (suc n) e =
    ap₂ (λ (x y : ℕ). x + y * 2 ^ n) (word_same f g n (λ k l h. e k l (omega arith))) (e (suc n) (omega arith) (omega arith))

-- a number below 2 ^ n is the word of its bits
pub word_of_bits : (f : ℕ → ℕ) (n w : ℕ) → w < 2 ^ n → ((k : ℕ) → 1 ≤ k → k ≤ n → f k ≡ bit w (k - 1)) → word_up_to f n ≡ w
word_of_bits f n w h e =
    same_word n (word_up_to f n) w (word_below f n small) h (λ j l m. word_bit f n j small l m ∙ e j l m)
  where
    small : (k : ℕ) → 1 ≤ k → k ≤ n → f k ≤ 1
    small k l m = omega (arith, e k l m)

-- ---- lists

-- the list has n elements
pub list_length : {A : Type 0} (f : ℕ → A) (n : ℕ) → length (list_up_to f n) ≡ n
unfolding list_up_to
list_length f zero = refl
list_length f (suc n) = length-append (list_up_to f n) (f (suc n) ∷ []) ∙ omega (arith, list_length f n)

-- element i - 1 of the list is f i
pub list_at : {A : Type 0} (f : ℕ → A) (n i : ℕ) (d : A) → 1 ≤ i → i ≤ n → get_or (list_up_to f n) (i - 1) d ≡ f i
unfolding list_up_to
list_at f zero i d l h = absurd (omega arith)
list_at f (suc n) i d l h =
    let long : length (list_up_to f n) ≡ n = list_length f n in
    ⊎_elim
    (λ (m : i ≤ n). get_or-append (list_up_to f n) (f (suc n) ∷ []) d (i - 1) (omega arith) ∙ list_at f n i d l m)
    (λ (q : i ≡ suc n).
    let place : length (list_up_to f n) ≡ i - 1 = omega arith in
    get_or_at (list_up_to f n) (f (suc n)) [] d (i - 1) place ∙ ap f (sym q))
    (le-suc_iff.0 h)

-- lists of functions that agree on 1..n
pub list_same : {A : Type 0} (f g : ℕ → A) (n : ℕ) → ((k : ℕ) → 1 ≤ k → k ≤ n → f k ≡ g k) → list_up_to f n ≡ list_up_to g n
unfolding list_up_to
list_same f g zero e = refl
list_same {A} f g (suc n) e =
    ap₂ (λ (x : List A) (y : A). x ++ (y ∷ [])) (list_same f g n (λ k l h. e k l (omega arith))) (e (suc n) (omega arith) (omega arith))
