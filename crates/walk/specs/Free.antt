-- The walk with no memory: what the walk would have driven is read off the places of pairs in the list.
use Rattle.std.specs.Prelude.{ℕ, ◌≡◌, ◌↔◌, Bool, true, eqb, ltb}
use mathlib.Core.List.{List, [], ◌∷◌, ◌++◌, Memᴰ}
use Rattle.laws.specs.Test.{both, either, pick}
use Rattle.walk.specs.Walk.{Outcome, still_open, Move, skips, wins, goes_on, loses, ending}

-- one step: the pair is its own image; or it wins by an edge at the pair and a gap at its image; or goes on by one of them; or loses
unfoldable pub free_move : (own edge gap : Bool) → Move
free_move own edge gap = pick own skips (pick edge (pick gap wins goes_on) (pick gap goes_on loses))

-- the test tells whether pair j, of L, stands before pair k in ks
abbrev pub Precedes : {P : Type 0} → (P → Type 0) → List P → (P → P → Bool) → Type 0
Precedes {P} L ks before = (xs : List P) (k : P) (ys : List P) → ks ≡ xs ++ k ∷ ys → (j : P) → L j → (before j k ≡ true) ↔ Memᴰ j xs

-- src gives the pair that a pair is the image of
module _ {P : Type 0} (same before : P → P → Bool) (img src : P → P) (v : P → ℕ) where
  -- an edge at k, or k is unknown and is the image of a pair before it
  abbrev pub edge_by : P → Bool
  edge_by k = either (eqb (v k) 1) (both (ltb 1 (v k)) (before (src k) k))

  -- a gap at k's image, or that is unknown and stands before k
  abbrev pub gap_by : P → Bool
  gap_by k = either (eqb (v (img k)) 0) (both (ltb 1 (v (img k))) (before (img k) k))

  unfoldable pub free : List P → Outcome P
  free [] = still_open
  free (k ∷ ks) =
      let rest = free ks in
      ending (free_move (same (img k) k) (edge_by k) (gap_by k)) k rest
