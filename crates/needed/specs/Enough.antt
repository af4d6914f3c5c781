-- The literals of a walk by rising number, and those that are left when all that can be dropped are dropped.
use Rattle.std.specs.Prelude.{ℕ, Bool, true, false, List, [], map}
use Rattle.walk.specs.Walk.{Outcome, won, lost, still_open, walk}
use Rattle.walk.specs.Clause.{Literal, pair_in}
use Rattle.walk.specs.Meeting.{met, only, literals_of}
use Rattle.needed.specs.Kept.{kept}

-- the walk is won
unfoldable pub is_won : {P : Type 0} → Outcome P → Bool
is_won (won k) = true
is_won lost = false
is_won still_open = false

module _ {P : Type 0} (same : P → P → Bool) (img : P → P) (ks : List P) (v : P → ℕ) where
  -- the walk is won over the drawing that knows only what these literals of v say
  unfoldable pub enough : List (Literal P) → Bool
  enough lits = is_won (walk same img ks (only same (map pair_in lits) v))

  module _ (numbering : List P) where
    -- the literals of the walk, by rising number: of every pair met, by the entries before anything was driven
    unfoldable pub literals : List (Literal P)
    literals = literals_of (only same (met same img ks v) v) numbering

    -- those that are kept: from the highest number down, each is dropped where the others that remain are enough
    unfoldable pub needed : List (Literal P)
    needed = kept enough [] literals
