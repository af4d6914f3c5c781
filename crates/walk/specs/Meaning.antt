-- What a walk that is won says: of the full drawings that agree with what is known.
use Rattle.std.specs.Prelude.{ℕ, ◌≤◌, ◌≡◌, Bool, List}
use Rattle.walk.specs.Walk.{won, walk}
use Rattle.walk.specs.Earlier.{Earlier, copy}

-- every pair of L has 0 or 1 in H
abbrev pub Full : {P : Type 0} → (P → Type 0) → (P → ℕ) → Type 0
Full {P} L H = (k : P) → L k → H k ≤ 1

-- w has every entry, at the pairs of L, that is known in v
abbrev pub Extends : {P : Type 0} → (P → Type 0) → (P → ℕ) → (P → ℕ) → Type 0
Extends {P} L v w = (k : P) → L k → v k ≤ 1 → w k ≡ v k

module _ {P : Type 0} (same : P → P → Bool) (img : P → P) where
  -- the walk is won, at some pair
  abbrev pub Won : List P → (P → ℕ) → Type 0
  Won ks v = (k : P) × (walk same img ks v ≡ won k)

-- the copy of every full drawing that has what is known in v is earlier than it
abbrev pub Beaten : {P : Type 0} → (P → Type 0) → (P → P) → List P → (P → ℕ) → Type 0
Beaten {P} L img ks v = (H : P → ℕ) → Full L H → Extends L v H → Earlier ks (copy img H) H
