-- What holds of each element of a list.
use Rattle.std.specs.Prelude.{refl}
use Rattle.std.proofs.Common.{sym, subst}
use mathlib.Core.List.{List, [], ◌∷◌, Memᴰ}

-- Q holds of each element
abbrev pub Each : {A : Type 0} → (A → Type 0) → List A → Type 0
Each {A} Q xs = (x : A) → Memᴰ x xs → Q x

module _ {A : Type 0} (Q : A → Type 0) where
  -- of none
  pub each_none : Each Q []
  each_none x m = elim m [ ]

  -- of the first and of the rest
  pub each_cons : {y : A} {ys : List A} → Q y → Each Q ys → Each Q (y ∷ ys)
  each_cons q h x (Memᴰ.head e) = subst Q (sym e) q
  each_cons q h x (Memᴰ.tail m) = h x m

  pub each_first : {y : A} {ys : List A} → Each Q (y ∷ ys) → Q y
  each_first {y} h = h y (Memᴰ.head refl)

  pub each_rest : {y : A} {ys : List A} → Each Q (y ∷ ys) → Each Q ys
  each_rest h x m = h x (Memᴰ.tail m)
