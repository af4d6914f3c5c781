-- What a search that stands at a path has still to visit.
use Rattle.std.specs.Prelude.{ℕ, ◌-◌, List, [], ◌∷◌, ◌++◌, length, take}
use Rattle.beginnings.specs.Search.{Judgement, subtrees}

-- b less its last vertex
abbrev pub shorter : List ℕ → List ℕ
shorter b = take (length b - 1) b

-- the subtrees of the untried vertices after b, then after b less its last vertex, and so on; untried has the deepest list first
unfoldable pub remaining : ℕ → (ℕ → ℕ) → (List ℕ → Judgement) → List ℕ → List (List ℕ) → List (List ℕ)
remaining n block judged b [] = []
remaining n block judged b (vs ∷ untried) = subtrees n block judged (n - length b - 1) b vs ++ remaining n block judged (shorter b) untried
