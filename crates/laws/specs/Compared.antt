-- The cases of two numbers.
use Rattle.std.specs.Prelude.{ℕ, zero, suc, ◌≤◌, ◌<◌, ◌≡◌, refl, ◌≢◌}
use Rattle.std.proofs.Common.{ap, arith}

-- one is below the other, or they are equal
pub by_order : {A : Type 0} (a b : ℕ) → (a < b → A) → (a ≡ b → A) → (b < a → A) → A
by_order zero zero below same above = same refl
by_order zero (suc b) below same above = below (omega arith)
by_order (suc a) zero below same above = above (omega arith)
by_order (suc a) (suc b) below same above =
    by_order a b (λ (l : a < b). below (omega arith)) (λ (e : a ≡ b). same (ap suc e)) (λ (l : b < a). above (omega arith))

-- the first is below the second, or not
pub by_below : {A : Type 0} (a b : ℕ) → (a < b → A) → (b ≤ a → A) → A
by_below a b below beyond =
    by_order a b below (λ (e : a ≡ b). beyond (omega arith)) (λ (l : b < a). beyond (omega arith))

-- they are equal, or not
pub by_same : {A : Type 0} (a b : ℕ) → (a ≡ b → A) → (a ≢ b → A) → A
by_same a b same apart = by_order a b (λ (l : a < b). apart (omega arith)) same (λ (l : b < a). apart (omega arith))
