-- The first of 1..n at which a test holds.
use Rattle.std.specs.Prelude.{ℕ, zero, suc, ◌≤◌, ◌<◌, ◌≡◌, Bool, true, false}
use Rattle.std.proofs.Math.Path.{refl}
use Rattle.std.proofs.Common.{⊎_elim, eq-or-lt_of_le, le_of_suc-le-suc, not-suc-le-zero, arith}
use Rattle.laws.specs.Test.{pick}

-- x, or y where x is 0
unfoldable pub or_else : ℕ → ℕ → ℕ
or_else zero y = y
or_else (suc x) y = suc x

-- the first of 1..n at which f holds, or 0
unfoldable pub first_up_to : (ℕ → Bool) → ℕ → ℕ
first_up_to f zero = 0
first_up_to f (suc n) = or_else (first_up_to f n) (pick (f (suc n)) (suc n) 0)

-- k is the first of 1..n at which f holds
pub record IsFirst (f : ℕ → Bool) (n k : ℕ) : Type 0 where
  pub low : 1 ≤ k
  pub high : k ≤ n
  pub holds : f k ≡ true
  pub none_before : (m : ℕ) → 1 ≤ m → m < k → f m ≡ false

-- where f fails at 1..k it is sought further
pub first_more : (f : ℕ → Bool) (k : ℕ) → first_up_to f k ≡ 0 → f (suc k) ≡ false → first_up_to f (suc k) ≡ 0
unfolding first_up_to or_else pick
first_more f k none fails = rw (none, fails)

-- where f fails at 1..k and holds at k + 1, that is the first, however far one looks
pub first_stop : (f : ℕ → Bool) (n k : ℕ) → first_up_to f k ≡ 0 → f (suc k) ≡ true → k < n → first_up_to f n ≡ suc k
unfolding first_up_to or_else pick
first_stop f zero k none holds h = absurd (not-suc-le-zero h)
first_stop f (suc n) k none holds h =
    ⊎_elim (λ (e : k ≡ n). rw (← e, none, holds)) (λ (l : k < n). rw (first_stop f n k none holds l))
    (eq-or-lt_of_le (le_of_suc-le-suc h))

-- none is found exactly where f fails at each of 1..n
pub first_none : (f : ℕ → Bool) (n : ℕ) → first_up_to f n ≡ 0 → (m : ℕ) → 1 ≤ m → m ≤ n → f m ≡ false
unfolding first_up_to or_else pick
first_none f zero e m low high = absurd (omega arith)
first_none f (suc n) e m low high =
    go (first_up_to f n) (f (suc n)) (λ (z : first_up_to f n ≡ 0) (l : m ≤ n). first_none f n z m low l) refl refl e
  where
    go : (r : ℕ) (b : Bool) → (first_up_to f n ≡ 0 → m ≤ n → f m ≡ false) → first_up_to f n ≡ r → f (suc n) ≡ b → or_else r (pick b (suc n) 0) ≡ 0 → f m ≡ false
    go zero true before is_r is_b z = absurd (omega arith)
    go (suc r) b before is_r is_b z = absurd (omega arith)
    go zero false before is_r is_b z = ⊎_elim (λ (q : m ≡ suc n). rw q is_b) (λ (l : m < suc n). before is_r (omega arith)) (eq-or-lt_of_le high)

-- and the other way
pub none_first : (f : ℕ → Bool) (n : ℕ) → ((m : ℕ) → 1 ≤ m → m ≤ n → f m ≡ false) → first_up_to f n ≡ 0
none_first f zero fails = unfold first_up_to in refl
none_first f (suc n) fails =
    first_more f n (none_first f n (λ m low high. fails m low (omega arith))) (fails (suc n) (omega arith) (omega arith))

-- what is found is the first
pub first_is : (f : ℕ → Bool) (n k : ℕ) → first_up_to f n ≡ suc k → IsFirst f n (suc k)
unfolding first_up_to or_else pick
first_is f zero k e = absurd (omega arith)
first_is f (suc n) k e = go (first_up_to f n) (f (suc n)) (first_is f n k) refl refl e
  where
    go : (r : ℕ) (b : Bool) → (first_up_to f n ≡ suc k → IsFirst f n (suc k)) → first_up_to f n ≡ r → f (suc n) ≡ b → or_else r (pick b (suc n) 0) ≡ suc k
        → IsFirst f (suc n) (suc k)
    go zero true before is_r is_b z =
        let q : k ≡ n = omega arith in
        record {
          low = omega arith;
          high = omega arith;
          holds = rw q is_b;
          none_before = λ m low l. first_none f n is_r m low (omega arith);
        }
    go zero false before is_r is_b z = absurd (omega arith)
    go (suc r) b before is_r is_b z =
        let i : IsFirst f n (suc k) = before (omega arith) in
        record { low = omega arith; high = omega arith; holds = i.holds; none_before = i.none_before }
