-- Beginnings of arrangements of 1..n, and the vertices that may come next. Place i of a list holds its element i - 1.
use Rattle.std.specs.Prelude.{ℕ, suc, ◌-◌, ◌≤◌, ◌<◌, ◌≡◌, ◌≢◌, Bool, true, not, List, [], ◌∷◌, length, get_or, eqb}
use Rattle.laws.specs.Test.{both}
use Rattle.laws.specs.Chosen.{chosen_up_to}

-- the vertex at place i
abbrev pub at : List ℕ → ℕ → ℕ
at b i = get_or b (i - 1) 0

-- 1..n distinct vertices, each in the block of its place; block v is the number of v's block
pub record Beginning (n : ℕ) (block : ℕ → ℕ) (b : List ℕ) : Type 0 where
  pub begun : 1 ≤ length b
  pub fits : length b ≤ n
  pub low : (i : ℕ) → 1 ≤ i → i ≤ length b → 1 ≤ at b i
  pub high : (i : ℕ) → 1 ≤ i → i ≤ length b → at b i ≤ n
  pub once : (i j : ℕ) → 1 ≤ j → j < i → i ≤ length b → at b i ≢ at b j
  pub in_block : (i : ℕ) → 1 ≤ i → i ≤ length b → block (at b i) ≡ block i

-- v is none of b's vertices
unfoldable pub absent : List ℕ → ℕ → Bool
absent [] v = true
absent (w ∷ b) v =
    let rest = absent b v in
    both (not (eqb v w)) rest

-- v is unused and in the block of the place after b
unfoldable pub may_follow : (ℕ → ℕ) → List ℕ → ℕ → Bool
may_follow block b v = both (absent b v) (eqb (block v) (block (suc (length b))))

-- the vertices that may follow b, by rising number
unfoldable pub children : ℕ → (ℕ → ℕ) → List ℕ → List ℕ
children n block b = chosen_up_to (may_follow block b) n
