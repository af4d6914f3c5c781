-- The clause as the code writes it: in one pass over the pairs, by tests on each.
use Rattle.std.specs.Prelude.{ℕ, suc, ◌+◌, ◌≡◌, List, [], ◌∷◌, ◌++◌, ℤ, length, take, drop, eqb}
use Rattle.walk.specs.Clause.{numbered}
use Rattle.pairs.specs.Pairs.{Pair}

-- the number m as it is written for its kind
unfoldable pub written_for : ℕ → ℕ → List ℤ
written_for kind m = numbered (eqb kind 1) (eqb kind 2) m []

-- what is written for the pairs ks of the kinds t, where i pairs come before them
unfoldable pub written_along : (Pair → ℕ) → ℕ → List Pair → List ℤ
written_along t i [] = []
written_along t i (k ∷ ks) =
    let rest = written_along t (suc i) ks in
    written_for (t k) (suc i) ++ rest

-- ---- the buffer

-- the text is written after the first count literals, nothing else is changed, and there are r literals then
pub record Wrote (text before : List ℤ) (count : ℕ) (after : List ℤ) (r : ℕ) : Type 0 where
  pub counted : r ≡ count + length text
  pub written : after ≡ take count before ++ text ++ drop (count + length text) before
