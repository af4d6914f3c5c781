-- What one step of the walk says of its pair.
use Prim.Native.Nat.{ℕ, ◌≤◌}
use native.Mathlib.Omega.{arith}
use mathlib.Core.Path.{◌≡◌, refl}
use mathlib.Core.Bool.{Bool, true, false}
use mathlib.Core.Logic.{◌≢◌}
use lib.Dec.{eqb}
use borrow.Author.Tests.{eqb-true, eqb-false}
use Rattle.laws.specs.Test.{pick}
use Rattle.walk.specs.Walk.{Tells, Move, skips, wins, goes_on, drives_zero, drives_one, loses, move, move_at}
use Rattle.walk.proofs.Put.{apart}

-- the pair k by its move
pub data Stepped {P : Type 0} (v : P → ℕ) (img : P → P) (k : P) : Move → Type 0 where
  by_itself : img k ≡ k → Stepped v img k skips
  winning : img k ≢ k → v k ≡ 1 → v (img k) ≡ 0 → Stepped v img k wins
  alike : img k ≢ k → v k ≤ 1 → v (img k) ≡ v k → Stepped v img k goes_on
  zero_driven : img k ≢ k → 2 ≤ v k → v (img k) ≡ 0 → Stepped v img k drives_zero
  one_driven : img k ≢ k → v k ≡ 1 → 2 ≤ v (img k) → Stepped v img k drives_one
  losing : img k ≢ k → v k ≢ 1 → v (img k) ≢ 0 → Stepped v img k loses

-- an entry that is neither 0 nor 1 is unknown
unknown : (n : ℕ) → n ≢ 0 → n ≢ 1 → 2 ≤ n
unknown n z o = omega arith

module _ {P : Type 0} {same : P → P → Bool} (tells : Tells same) (v : P → ℕ) (img : P → P) (k : P) where
  by_tests : (own edge gap a0 b1 : Bool) → same (img k) k ≡ own → eqb (v k) 1 ≡ edge → eqb (v (img k)) 0 ≡ gap → eqb (v k) 0 ≡ a0 → eqb (v (img k)) 1 ≡ b1
      → Stepped v img k (pick own skips (pick edge (pick gap wins (pick b1 goes_on drives_one)) (pick gap (pick a0 goes_on drives_zero) loses)))
  unfolding pick
  by_tests true edge gap a0 b1 o e g p q = by_itself (tells.equal (img k) k o)
  by_tests false true true a0 b1 o e g p q = winning (apart tells o) (eqb-true (v k) 1 e) (eqb-true (v (img k)) 0 g)
  by_tests false true false a0 true o e g p q =
      alike (apart tells o) (omega (arith, eqb-true (v k) 1 e)) (omega (arith, eqb-true (v k) 1 e, eqb-true (v (img k)) 1 q))
  by_tests false true false a0 false o e g p q =
      one_driven (apart tells o) (eqb-true (v k) 1 e) (unknown (v (img k)) (eqb-false (v (img k)) 0 g) (eqb-false (v (img k)) 1 q))
  by_tests false false true true b1 o e g p q =
      alike (apart tells o) (omega (arith, eqb-true (v k) 0 p)) (omega (arith, eqb-true (v k) 0 p, eqb-true (v (img k)) 0 g))
  by_tests false false true false b1 o e g p q =
      zero_driven (apart tells o) (unknown (v k) (eqb-false (v k) 0 p) (eqb-false (v k) 1 e)) (eqb-true (v (img k)) 0 g)
  by_tests false false false a0 b1 o e g p q = losing (apart tells o) (eqb-false (v k) 1 e) (eqb-false (v (img k)) 0 g)

  -- what pair k does, and why
  pub stepped : Stepped v img k (move_at same img v k)
  unfolding move
  stepped = by_tests (same (img k) k) (eqb (v k) 1) (eqb (v (img k)) 0) (eqb (v k) 0) (eqb (v (img k)) 1) refl refl refl refl refl
