-- The drawing that knows some pairs alone.
use Prim.Native.Nat.{ℕ, ◌≤◌}
use native.Mathlib.Omega.{arith}
use mathlib.Core.Path.{◌≡◌, refl, sym, ◌∙◌}
use mathlib.Core.Logic.{◌↔◌, ◌⊎◌, inl, inr}
use mathlib.Core.Bool.{Bool, true, false, false≢true}
use mathlib.Core.List.Memᴰ
use mathlib.Core.List.{List, [], ◌∷◌, Memᴰ}
use Rattle.laws.specs.Test.{either, pick}
use Rattle.laws.specs.TestLaws.{either_second}
use Rattle.laws.specs.Each.{Each}
use Rattle.walk.specs.Walk.{Tells}
use Rattle.walk.specs.Meaning.{Extends}
use Rattle.walk.specs.Meeting.{listed, only}

module _ {P : Type 0} {same : P → P → Bool} (tells : Tells same) where
  -- the test tells whether a pair is listed
  pub listed_tells : (j : P) (js : List P) → (listed same j js ≡ true) ↔ Memᴰ j js
  unfolding listed either
  listed_tells j [] = (λ e. absurd (false≢true e), λ m. elim m [ ])
  listed_tells j (k ∷ js) = (to (same j k) refl (listed_tells j js).0, λ m. from (listed_tells j js).1 (Memᴰ.cases_cons m))
    where
      to : (t : Bool) → same j k ≡ t → (listed same j js ≡ true → Memᴰ j js) → either t (listed same j js) ≡ true → Memᴰ j (k ∷ js)
      to true e f h = Memᴰ.head (tells.equal j k e)
      to false e f h = Memᴰ.tail (f h)

      from : (Memᴰ j js → listed same j js ≡ true) → (j ≡ k) ⊎ Memᴰ j js → either (same j k) (listed same j js) ≡ true
      from f (inl e) = rw (← e, tells.itself j)
      from f (inr m) = either_second (same j k) (listed same j js) (f m)

  -- it has the entries at js
  pub only_listed : (js : List P) (v : P → ℕ) → Each (λ j. only same js v j ≡ v j) js
  unfolding only pick
  only_listed js v j m = rw ((listed_tells j js).1 m)

  -- and no other is known
  pub only_known : (js : List P) (v : P → ℕ) (j : P) → only same js v j ≤ 1 → Memᴰ j js × (v j ≤ 1)
  unfolding only pick
  only_known js v j h = at (listed same j js) refl h
    where
      at : (t : Bool) → listed same j js ≡ t → pick t (v j) 2 ≤ 1 → Memᴰ j js × (v j ≤ 1)
      at true e h = ((listed_tells j js).0 e, h)
      at false e h = absurd (omega arith)

  -- what has the known entries at js has all that it knows
  pub extends_only : (L : P → Type 0) (js : List P) (v H : P → ℕ) → Each (λ j. v j ≤ 1 → H j ≡ v j) js → Extends L (only same js v) H
  extends_only L js v H e j l h =
      let k = only_known js v j h in
      e j k.0 k.1 ∙ sym (only_listed js v j k.0)
