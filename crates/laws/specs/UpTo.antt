-- What is made of f 1, f 2, .., f n: a test, a sum, a word with these bits, a list.
use Rattle.std.specs.Prelude.{ℕ, zero, suc, ◌+◌, ◌*◌, ◌^◌, Bool, true, List, [], ◌∷◌, ◌++◌}
use Rattle.laws.specs.Test.{both}

-- f holds at each of 1..n
unfoldable pub all_up_to : (ℕ → Bool) → ℕ → Bool
all_up_to f zero = true
all_up_to f (suc n) = both (all_up_to f n) (f (suc n))

-- f 1 + .. + f n
unfoldable pub sum_up_to : (ℕ → ℕ) → ℕ → ℕ
sum_up_to f zero = 0
sum_up_to f (suc n) = sum_up_to f n + f (suc n)

-- the word whose bit j - 1 is f j, for j in 1..n
unfoldable pub word_up_to : (ℕ → ℕ) → ℕ → ℕ
word_up_to f zero = 0
word_up_to f (suc n) = word_up_to f n + f (suc n) * 2 ^ n

-- f 1, .., f n
unfoldable pub list_up_to : {A : Type 0} → (ℕ → A) → ℕ → List A
list_up_to f zero = []
list_up_to f (suc n) = list_up_to f n ++ (f (suc n) ∷ [])
