-- A function on 1..k into 1..m that takes no value twice: k is not above m, and where k is m it takes each value.
use Rattle.std.specs.Prelude.{ℕ, zero, suc, ◌-◌, ◌≤◌, ◌<◌, ◌≡◌, ◌≢◌, ltb}
use Rattle.std.proofs.Common.{sym, arith, lt-ltb, le-ltb}
use Rattle.laws.specs.Compared.{by_below}
use Rattle.laws.specs.Test.{pick}
use Rattle.laws.specs.TestLaws.{pick_true, pick_false}

pub record Injects (k m : ℕ) (f : ℕ → ℕ) : Type 0 where
  pub low : (i : ℕ) → 1 ≤ i → i ≤ k → 1 ≤ f i
  pub high : (i : ℕ) → 1 ≤ i → i ≤ k → f i ≤ m
  pub once : (i j : ℕ) → 1 ≤ j → j < i → i ≤ k → f i ≢ f j

-- y's number among those other than x
without : ℕ → ℕ → ℕ
without x y = pick (ltb x y) (y - 1) y

-- y is below x and stays, or above it and moves down
by_side : {A : Type 0} (x y : ℕ) → y ≢ x → (y < x → without x y ≡ y → A) → (x < y → without x y ≡ y - 1 → A) → A
unfolding without
by_side x y apart stays moves =
    by_below x y (λ l. moves l (pick_true (ltb x y) (y - 1) y (lt-ltb x y l)))
    (λ l. stays (omega arith) (pick_false (ltb x y) (y - 1) y (le-ltb x y l)))

-- a value that is never taken can be left out
leave_out : (k m x : ℕ) (f : ℕ → ℕ) → 1 ≤ x → x ≤ suc m → ((i : ℕ) → 1 ≤ i → i ≤ k → f i ≢ x) → Injects k (suc m) f
    → Injects k m (λ i. without x (f i))
leave_out k m x f lx hx never s =
    record {
      low = λ i l h. by_side x (f i) (never i l h) (λ b e. omega (arith, s.low i l h)) (λ b e. omega arith);
      high = λ i l h. by_side x (f i) (never i l h) (λ b e. omega arith) (λ b e. omega (arith, s.high i l h));
      once = λ i j l d h.
          let apart : f i ≢ f j = s.once i j l d h in
          by_side x (f i) (never i (omega arith) h)
          (λ b e. by_side x (f j) (never j l (omega arith)) (λ c o. omega arith) (λ c o. omega arith))
          (λ b e. by_side x (f j) (never j l (omega arith)) (λ c o. omega arith) (λ c o. omega arith));
    }

-- there is no room for one more
pub too_many : (m : ℕ) (f : ℕ → ℕ) → Injects (suc m) m f → ⊥
too_many zero f s = omega (arith, s.low 1 (omega arith) (omega arith), s.high 1 (omega arith) (omega arith))
too_many (suc m) f s =
    let x = f (suc (suc m)) in
    too_many m (λ i. without x (f i))
    (leave_out (suc m) m x f (s.low (suc (suc m)) (omega arith) (omega arith)) (s.high (suc (suc m)) (omega arith) (omega arith))
    (λ i l h e. s.once (suc (suc m)) i l (omega arith) (omega arith) (sym e))
    (record {
      low = λ i l h. s.low i l (omega arith);
      high = λ i l h. s.high i l (omega arith);
      once = λ i j l d h. s.once i j l d (omega arith);
    }))

-- each value is taken
pub each_taken : (n : ℕ) (f : ℕ → ℕ) → Injects n n f → (v : ℕ) → 1 ≤ v → v ≤ n → ((i : ℕ) → 1 ≤ i → i ≤ n → f i ≢ v) → ⊥
each_taken zero f s v l h never = omega arith
each_taken (suc m) f s v l h never = too_many m (λ i. without v (f i)) (leave_out (suc m) m v f l h never s)
