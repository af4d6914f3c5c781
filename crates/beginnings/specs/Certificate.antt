-- Certificates, and the first arrangement that extends a beginning.
use Rattle.std.specs.Prelude.{ℕ, zero, suc, ◌≡◌, List, [], ◌∷◌, ◌++◌, length, get_or}
use Rattle.beginnings.specs.Beginning.{Beginning, children}
use Rattle.beginnings.specs.Search.{Judgement, won}

-- a won beginning of length n
pub record Certificate (n : ℕ) (block : ℕ → ℕ) (judged : List ℕ → Judgement) (p : List ℕ) : Type 0 where
  pub beginning : Beginning n block p
  pub whole : length p ≡ n
  pub wins : judged p ≡ won

-- a beginning that is judged so leaves each arrangement that extends it judged so
abbrev pub Stays : ℕ → (ℕ → ℕ) → (List ℕ → Judgement) → Judgement → Type 0
Stays n block judged j = (b c : List ℕ) → Beginning n block b → Beginning n block (b ++ c) → length (b ++ c) ≡ n → judged b ≡ j → judged (b ++ c) ≡ j

-- b with its first child
unfoldable pub with_first : ℕ → (ℕ → ℕ) → List ℕ → List ℕ
with_first n block b = b ++ (get_or (children n block b) 0 0 ∷ [])

-- b extended, left times, each time by the first child
unfoldable pub completed : ℕ → (ℕ → ℕ) → ℕ → List ℕ → List ℕ
completed n block zero b = b
completed n block (suc left) b = completed n block left (with_first n block b)
