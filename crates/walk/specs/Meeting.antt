-- The pairs that a walk meets, the drawing that knows them alone, and their literals.
use Rattle.std.specs.Prelude.{ℕ, Bool, false, List, [], ◌∷◌, eqb}
use Rattle.laws.specs.Test.{either, pick}
use Rattle.walk.specs.Clause.{Literal, absent, present}
use Rattle.walk.specs.Walk.{Move, skips, wins, goes_on, drives_zero, drives_one, loses, driven, move_at}

-- the pairs met from k on, where rest are those met after its turn
unfoldable pub meeting : {P : Type 0} → Move → (k image : P) → List P → List P
meeting skips k image rest = rest
meeting wins k image rest = k ∷ image ∷ []
meeting goes_on k image rest = k ∷ image ∷ rest
meeting drives_zero k image rest = k ∷ image ∷ rest
meeting drives_one k image rest = k ∷ image ∷ rest
meeting loses k image rest = k ∷ image ∷ []

module _ {P : Type 0} (same : P → P → Bool) (img : P → P) where
  -- the pairs that the walk meets other than against themselves: each that it comes to and that is not its own image, with its image
  unfoldable pub met : List P → (P → ℕ) → List P
  met [] v = []
  met (k ∷ ks) v =
      let rest = met ks (driven same (move_at same img v k) k (img k) v) in
      meeting (move_at same img v k) k (img k) rest

  -- each pair of ks that is not its own image, with its image
  unfoldable pub with_images : List P → List P
  with_images [] = []
  with_images (k ∷ ks) = let rest = with_images ks in pick (same (img k) k) rest (k ∷ img k ∷ rest)

-- the pair is one of those listed
unfoldable pub listed : {P : Type 0} → (P → P → Bool) → P → List P → Bool
listed same j [] = false
listed same j (k ∷ ks) = let rest = listed same j ks in either (same j k) rest

-- v with everything forgotten but the entries at js
unfoldable pub only : {P : Type 0} → (P → P → Bool) → List P → (P → ℕ) → P → ℕ
only same js v j = pick (listed same j js) (v j) 2

-- the literal of an entry a at j, if it is known, before the others: "not j" for 1, j for 0
unfoldable pub literal_at : {P : Type 0} → ℕ → P → List (Literal P) → List (Literal P)
literal_at a j rest = pick (eqb a 1) (absent j ∷ rest) (pick (eqb a 0) (present j ∷ rest) rest)

-- the literals of the pairs js, those that are known in v
unfoldable pub literals_of : {P : Type 0} → (P → ℕ) → List P → List (Literal P)
literals_of v [] = []
literals_of v (j ∷ js) = let rest = literals_of v js in literal_at (v j) j rest
