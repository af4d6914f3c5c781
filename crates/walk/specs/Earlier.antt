-- Which of two drawings is earlier along a list of pairs.
use Rattle.std.specs.Prelude.{ℕ, ◌<◌, ◌≡◌, ◌⊎◌, List, [], ◌∷◌, ◌++◌}
use Rattle.laws.specs.Each.{Each}

-- x has 0 and y has 1 at the first pair of ks where they differ
pub record Earlier {P : Type 0} (ks : List P) (x y : P → ℕ) : Type 0 where
  pub before : List P
  pub pair : P
  pub after : List P
  pub split : ks ≡ before ++ pair ∷ after
  pub agree : Each (λ k. x k ≡ y k) before
  pub zero_here : x pair ≡ 0
  pub one_there : y pair ≡ 1

-- the copy of the drawing x under the arrangement: at each pair the entry of its image
abbrev pub copy : {P : Type 0} → (P → P) → (P → ℕ) → P → ℕ
copy img x k = x (img k)

-- the lexicographic order of lists of numbers, a list before those that extend it
unfoldable pub LexLess : List ℕ → List ℕ → Type 0
LexLess xs [] = ⊥
LexLess [] (y ∷ ys) = Unit {0}
LexLess (x ∷ xs) (y ∷ ys) = (x < y) ⊎ ((x ≡ y) × LexLess xs ys)
