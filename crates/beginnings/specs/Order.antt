-- Dictionary order of lists of vertices.
use Rattle.std.specs.Prelude.{ℕ, ◌<◌, ◌≡◌, ◌⊎◌}
use mathlib.Core.List.{List, [], ◌∷◌, Memᴰ}

-- b comes before c: c properly extends b, or b has the smaller vertex at the first place where they differ
abbrev pub Before : List ℕ → List ℕ → Type 0
Before [] [] = ⊥
Before [] (w ∷ c) = Unit {0}
Before (v ∷ b) [] = ⊥
Before (v ∷ b) (w ∷ c) = (v < w) ⊎ ((v ≡ w) × Before b c)

-- each comes before all later ones
abbrev pub Rising : List (List ℕ) → Type 0
Rising [] = Unit {0}
Rising (b ∷ bs) = ((c : List ℕ) → Memᴰ c bs → Before b c) × Rising bs
