-- The walk along a list of pairs. An entry is 0 for a non-edge, 1 for an edge, 2 for unknown. At a pair k, a is the entry there and b
-- the entry at its image, with the values counted that the walk has been driven to.
use Rattle.std.specs.Prelude.{ℕ, ◌≡◌, Bool, true, List, [], ◌∷◌, eqb}
use Rattle.laws.specs.Test.{pick}

-- the test tells whether two pairs are one
pub record Tells {P : Type 0} (same : P → P → Bool) : Type 0 where
  pub equal : (j k : P) → same j k ≡ true → j ≡ k
  pub itself : (k : P) → same k k ≡ true

-- what one pair does to the walk: it is its own image; or a is 1 and b is 0; or both are the same known value; or a is unknown and is
-- driven to 0, as b is; or b is unknown and is driven to 1, as a is; or none of these
pub data Move : Type 0 where
  skips wins goes_on drives_zero drives_one loses : Move

unfoldable pub move : Bool → ℕ → ℕ → Move
move own a b =
    pick own skips
    (pick (eqb a 1) (pick (eqb b 0) wins (pick (eqb b 1) goes_on drives_one)) (pick (eqb b 0) (pick (eqb a 0) goes_on drives_zero) loses))

-- how a walk ends
pub data Outcome (P : Type 0) : Type 0 where
  won : P → Outcome P
  lost : Outcome P
  still_open : Outcome P

-- the end of the walk at k, where rest is that of the walk along the pairs after k
unfoldable pub ending : {P : Type 0} → Move → P → Outcome P → Outcome P
ending skips k rest = rest
ending wins k rest = won k
ending goes_on k rest = rest
ending drives_zero k rest = rest
ending drives_one k rest = rest
ending loses k rest = lost

-- v with the entry x at k
unfoldable pub put : {P : Type 0} → (P → P → Bool) → P → ℕ → (P → ℕ) → P → ℕ
put same k x v j = pick (same j k) x (v j)

-- the entries after the turn of k
unfoldable pub driven : {P : Type 0} → (P → P → Bool) → Move → (k image : P) → (P → ℕ) → P → ℕ
driven same skips k image v = v
driven same wins k image v = v
driven same goes_on k image v = v
driven same drives_zero k image v = put same k 0 v
driven same drives_one k image v = put same image 1 v
driven same loses k image v = v

module _ {P : Type 0} (same : P → P → Bool) (img : P → P) where
  -- what pair k does
  abbrev pub move_at : (P → ℕ) → P → Move
  move_at v k = move (same (img k) k) (v k) (v (img k))

  -- won at the winning pair, lost or open; after each pair it goes on with what that pair has driven
  unfoldable pub walk : List P → (P → ℕ) → Outcome P
  walk [] v = still_open
  walk (k ∷ ks) v =
      let rest = walk ks (driven same (move_at v k) k (img k) v) in
      ending (move_at v k) k rest

-- the walk along two lists joined, by the walk along the first and what comes then
unfoldable pub and_then : {P : Type 0} → Outcome P → Outcome P → Outcome P
and_then (won k) later = won k
and_then lost later = lost
and_then still_open later = later
