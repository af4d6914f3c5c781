-- Lists as text.
use Rattle.std.specs.Prelude.{ℕ, List, [], ◌∷◌, ◌++◌}

-- each with a comma before it
unfoldable pub others : {A : Type 0} → (A → List ℕ) → List A → List ℕ
others f [] = []
others f (x ∷ xs) = 44 ∷ (f x ++ others f xs)

-- a list with commas between; a dash if it is empty
unfoldable pub listed : {A : Type 0} → (A → List ℕ) → List A → List ℕ
listed f [] = 45 ∷ []
listed f (x ∷ xs) = f x ++ others f xs
