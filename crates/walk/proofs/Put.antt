-- A drawing with one entry put in.
use Prim.Native.Nat.{ℕ, ◌≤◌}
use native.Mathlib.Omega.{arith}
use mathlib.Core.Path.{◌≡◌, refl, sym, ◌∙◌, ap}
use mathlib.Core.Logic.{◌⊎◌, inl, inr, ◌≢◌}
use mathlib.Core.Bool.{Bool, true, false, true≢false}
use Rattle.laws.specs.Test.{pick}
use Rattle.walk.specs.Walk.{Tells, put}
use Rattle.walk.specs.Meaning.{Extends}

-- entries 0 and 1 stay so where 0 or 1 is put in
pub put_full : {P : Type 0} (same : P → P → Bool) (k : P) (x : ℕ) (v : P → ℕ) → x ≤ 1 → ((j : P) → v j ≤ 1) → (j : P) → put same k x v j ≤ 1
unfolding put pick
put_full same k x v h f j = at (same j k)
  where
    at : (t : Bool) → pick t x (v j) ≤ 1
    at true = h
    at false = f j

module _ {P : Type 0} {same : P → P → Bool} (tells : Tells same) where
  -- two pairs whose test fails are two
  pub apart : {j k : P} → same j k ≡ false → j ≢ k
  apart {j} {k} o p = true≢false (sym (tells.itself k) ∙ (rw p at o))

  -- two pairs are one or not
  pub one_or_two : (j k : P) → (j ≡ k) ⊎ (j ≢ k)
  one_or_two j k = at (same j k) refl
    where
      at : (t : Bool) → same j k ≡ t → (j ≡ k) ⊎ (j ≢ k)
      at true e = inl (tells.equal j k e)
      at false e = inr (apart e)

  -- what is put in stands there
  pub put_here : (k : P) (x : ℕ) (v : P → ℕ) → put same k x v k ≡ x
  unfolding put pick
  put_here k x v = rw (tells.itself k)

  -- and the other entries stay
  pub put_there : (k : P) (x : ℕ) (v : P → ℕ) (j : P) → j ≢ k → put same k x v j ≡ v j
  unfolding put pick
  put_there k x v j n = at (same j k) refl
    where
      at : (t : Bool) → same j k ≡ t → pick t x (v j) ≡ v j
      at true e = absurd (n (tells.equal j k e))
      at false e = refl

  module _ (L : P → Type 0) (k : P) (x : ℕ) (v H : P → ℕ) where
    -- what has the entries of v, and x at k, has those of v with x put in at k
    pub extends_put : Extends L v H → H k ≡ x → Extends L (put same k x v) H
    extends_put e h j l = at (one_or_two j k)
      where
        at : (j ≡ k) ⊎ (j ≢ k) → put same k x v j ≤ 1 → H j ≡ put same k x v j
        at (inl p) a = rw (p, put_here k x v) h
        at (inr n) a = rw (put_there k x v j n) (e j l (rw (put_there k x v j n) at a))

    -- and the other way round, where the entry at k is unknown in v
    pub extends_unput : 2 ≤ v k → Extends L (put same k x v) H → Extends L v H
    extends_unput u e j l a = at (one_or_two j k)
      where
        at : (j ≡ k) ⊎ (j ≢ k) → H j ≡ v j
        at (inl p) = absurd (omega (arith, ap v p))
        at (inr n) = rw (put_there k x v j n) at (e j l (rw (put_there k x v j n) a))
