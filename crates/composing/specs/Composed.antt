-- Composing and inverting arrangements.
use Rattle.std.specs.Prelude.{ℕ, zero, suc, List, eqb}
use Rattle.laws.specs.Test.{pick}
use Rattle.words.specs.Placed.{placed}
use Rattle.arrangements.specs.Arrangement.{at}

-- p composed with q puts p(q(i)) at i
abbrev pub through : List ℕ → List ℕ → ℕ → ℕ
through p q i = at p (at q i)

unfoldable pub composed : ℕ → List ℕ → List ℕ → List ℕ
composed n p q = placed (through p q) n

-- the last of the places 1..n at which p has v, or 0
unfoldable pub place_of : List ℕ → ℕ → ℕ → ℕ
place_of p zero v = 0
place_of p (suc n) v = pick (eqb (at p (suc n)) v) (suc n) (place_of p n v)

-- the inverse puts at v the place at which p has v
unfoldable pub inverse : ℕ → List ℕ → List ℕ
inverse n p = placed (place_of p n) n
