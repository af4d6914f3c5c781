-- Dropping what is not needed, one at a time from the last to the first.
use Rattle.std.specs.Prelude.{◌≡◌, Bool, true}
use mathlib.Core.List.{List, [], ◌∷◌, ◌++◌, Memᴰ}
use Rattle.laws.specs.Test.{pick}
use Rattle.laws.specs.Each.{Each}

module _ {A : Type 0} (enough : List A → Bool) where
  -- what is kept of the list, where `before` stand before it and are all still there: the last are tried first, and each is dropped
  -- where what stands before it and what is kept after it are enough
  unfoldable pub kept : (before : List A) → List A → List A
  kept before [] = []
  kept before (x ∷ xs) =
      let rest = kept (before ++ x ∷ []) xs in
      pick (enough (before ++ rest)) rest (x ∷ rest)

  -- having more, it stays enough
  abbrev pub Monotone : Type 0
  Monotone = (xs ys : List A) → Each (λ x. Memᴰ x ys) xs → enough xs ≡ true → enough ys ≡ true

-- those of the list for which the test holds
unfoldable pub those : {A : Type 0} → (A → Bool) → List A → List A
those t [] = []
those t (x ∷ xs) = let rest = those t xs in pick (t x) (x ∷ rest) rest
