-- A drawing along a list as a number in base 2: the earlier drawing is the smaller number.
use Prim.Native.Nat.{ℕ, zero, suc, ◌+◌, ◌*◌, ◌^◌, ◌≤◌, ◌<◌}
use native.Mathlib.Omega.{arith}
use mathlib.Core.Path.{◌≡◌}
use mathlib.Core.Logic.{◌⊎◌, inl, inr}
use mathlib.Core.List.{List, [], ◌∷◌}
use lib.ListN.{length}
use Rattle.laws.specs.Each.{Each, each_first, each_rest}
use Rattle.walk.specs.Earlier.{Earlier}
use Rattle.walk.proofs.Order.{earlier_none, earlier_cases}

-- the drawing x read along ks as a number in base 2
pub weight : {P : Type 0} → (P → ℕ) → List P → ℕ
weight x [] = 0
weight x (k ∷ ks) = x k * 2 ^ length ks + weight x ks

weight_below : {P : Type 0} (x : P → ℕ) (ks : List P) → Each (λ k. x k ≤ 1) ks → weight x ks < 2 ^ length ks
unfolding weight
weight_below x [] h = omega arith
weight_below x (k ∷ ks) h = at (x k) (each_first (λ k. x k ≤ 1) h) (weight_below x ks (each_rest (λ k. x k ≤ 1) h))
  where
    at : (a : ℕ) → a ≤ 1 → weight x ks < 2 ^ length ks → a * 2 ^ length ks + weight x ks < 2 ^ suc (length ks)
    at zero l b = omega arith
    at (suc zero) l b = omega arith
    at (suc (suc a)) l b = absurd (omega arith)

-- the earlier drawing is the smaller number
pub earlier_lighter : {P : Type 0} (x y : P → ℕ) (ks : List P) → Each (λ k. x k ≤ 1) ks → Earlier ks x y → weight x ks < weight y ks
unfolding weight
earlier_lighter x y [] h e = absurd (earlier_none x y e)
earlier_lighter x y (k ∷ ks) h e = at (earlier_cases x y e) (λ f. earlier_lighter x y ks (each_rest (λ k. x k ≤ 1) h) f)
  where
    at : ((x k ≡ 0) × (y k ≡ 1)) ⊎ ((x k ≡ y k) × Earlier ks x y) → (Earlier ks x y → weight x ks < weight y ks)
        → x k * 2 ^ length ks + weight x ks < y k * 2 ^ length ks + weight y ks
    at (inl a) f = rw (a.0, a.1) (omega (arith, weight_below x ks (each_rest (λ k. x k ≤ 1) h)))
    at (inr a) f = rw a.0 (omega (arith, f a.1))
