-- A walk is won exactly where the copy of every full drawing that has what is known is earlier than the drawing.
use Prim.Native.Nat.{ℕ, ◌≤◌}
use native.Mathlib.Omega.{arith}
use native.Mathlib.Decide.{ℕ_discrete}
use mathlib.Core.Path.{◌≡◌, refl, ◌∙◌, ap}
use mathlib.Core.Logic.{◌↔◌, ◌⊎◌, inl, inr, ◌≢◌}
use mathlib.Core.Bool.{Bool, true, false}
use mathlib.Core.List.{List, [], ◌∷◌}
use lib.Dec.{ltb}
use borrow.Author.Tests.{ltb-true, lt-ltb}
use Rattle.laws.specs.Test.{pick}
use Rattle.laws.specs.Each.{Each, each_first, each_rest}
use Rattle.walk.specs.Walk.{Tells, won, lost, still_open, Move, ending, put, driven, walk}
use Rattle.walk.specs.Earlier.{Earlier, copy}
use Rattle.walk.proofs.Order.{earlier_here, earlier_later, earlier_cases, earlier_none}
use Rattle.walk.specs.Meaning.{Full, Extends, Won, Beaten}
use Rattle.walk.proofs.Put.{one_or_two, put_here, put_there, put_full, extends_put, extends_unput}
use Rattle.walk.proofs.Step.{Stepped, by_itself, winning, alike, zero_driven, one_driven, losing, stepped}

-- a walk that is lost or open is won nowhere
pub lost_not_won : {P : Type 0} {k : P} → lost ≡ won k → ⊥
lost_not_won e = let z : ◌≡◌ {A = ℕ} 0 1 = cc in omega arith

pub open_not_won : {P : Type 0} {k : P} → still_open ≡ won k → ⊥
open_not_won e = let z : ◌≡◌ {A = ℕ} 0 1 = cc in omega arith

-- 0 for what is unknown
filled : {P : Type 0} → (P → ℕ) → P → ℕ
filled v k = pick (ltb (v k) 2) (v k) 0

filled_full : {P : Type 0} (v : P → ℕ) (k : P) → filled v k ≤ 1
unfolding filled pick
filled_full v k = at (ltb (v k) 2) refl
  where
    at : (t : Bool) → ltb (v k) 2 ≡ t → pick t (v k) 0 ≤ 1
    at true e = omega (arith, ltb-true (v k) 2 e)
    at false e = omega arith

filled_same : {P : Type 0} (v : P → ℕ) (k : P) → v k ≤ 1 → filled v k ≡ v k
unfolding filled pick
filled_same v k h = rw (lt-ltb (v k) 2 (omega arith))

module _ {P : Type 0} {same : P → P → Bool} (tells : Tells same) (L : P → Type 0) (img : P → P) where
  -- ---- won: every copy is earlier

  won_beats : (ks : List P) → Each L ks → Each (λ k. L (img k)) ks → (v : P → ℕ) (w : P) → walk same img ks v ≡ won w → Beaten L img ks v
  unfolding walk ending driven
  won_beats [] ls is v w e H f x = absurd (open_not_won e)
  won_beats (k ∷ ks) ls is v w e H f x =
      at (stepped tells v img k) e (λ v e x. won_beats ks (each_rest L ls) (each_rest (λ k. L (img k)) is) v w e H f x)
    where
      here : L k
      here = each_first L ls

      there : L (img k)
      there = each_first (λ k. L (img k)) is

      a≤1 : H k ≤ 1
      a≤1 = f k here

      b≤1 : H (img k) ≤ 1
      b≤1 = f (img k) there

      at : {m : Move} → Stepped v img k m → ending m k (walk same img ks (driven same m k (img k) v)) ≡ won w
          → ((v : P → ℕ) → walk same img ks v ≡ won w → Extends L v H → Earlier ks (copy img H) H)
          → Earlier (k ∷ ks) (copy img H) H
      at (by_itself p) e go = earlier_later (copy img H) H (ap H p) (go v e x)
      at (winning n a b) e go =
          earlier_here (copy img H) H (omega (arith, x (img k) there (omega arith))) (omega (arith, x k here (omega arith)))
      at (alike n u b) e go = earlier_later (copy img H) H (omega (arith, x (img k) there (omega arith), x k here u)) (go v e x)
      at (zero_driven n u b) e go = on (ℕ_discrete (H k) 0)
        where
          zero : H (img k) ≡ 0
          zero = omega (arith, x (img k) there (omega arith))

          on : Dec (H k ≡ 0) → Earlier (k ∷ ks) (copy img H) H
          on (yes z) = earlier_later (copy img H) H (omega (arith, zero)) (go (put same k 0 v) e (extends_put tells L k 0 v H x z))
          on (no o) = earlier_here (copy img H) H zero (omega (arith, a≤1))
      at (one_driven n a u) e go = on (ℕ_discrete (H (img k)) 1)
        where
          one : H k ≡ 1
          one = omega (arith, x k here (omega arith))

          on : Dec (H (img k) ≡ 1) → Earlier (k ∷ ks) (copy img H) H
          on (yes o) = earlier_later (copy img H) H (omega (arith, one)) (go (put same (img k) 1 v) e (extends_put tells L (img k) 1 v H x o))
          on (no z) = earlier_here (copy img H) H (omega (arith, b≤1)) one
      at (losing n a b) e go = absurd (lost_not_won e)

  -- ---- not won: a drawing whose copy is not earlier

  -- a full drawing that has what is known in v and whose copy is not earlier
  pub record Unbeaten (ks : List P) (v : P → ℕ) : Type 0 where
    pub drawing : P → ℕ
    pub full : Full L drawing
    pub extends : Extends L v drawing
    pub stays : ¬ Earlier ks (copy img drawing) drawing

  -- won, or there is such a drawing
  pub won_or_not : (ks : List P) → Each L ks → Each (λ k. L (img k)) ks → (v : P → ℕ) → Won same img ks v ⊎ Unbeaten ks v
  unfolding walk ending driven
  won_or_not [] ls is v = inr record { drawing = filled v; full = λ k l. filled_full v k; extends = λ k l. filled_same v k; stays = earlier_none (copy img (filled v)) (filled v) }
  won_or_not (k ∷ ks) ls is v = at (stepped tells v img k) (won_or_not ks (each_rest L ls) (each_rest (λ k. L (img k)) is))
    where
      here : L k
      here = each_first L ls

      there : L (img k)
      there = each_first (λ k. L (img k)) is

      -- a pair where the copy does not have 0 against 1 is passed
      passed : (w : P → ℕ) → ((H : P → ℕ) → Extends L w H → Extends L v H)
          → ((H : P → ℕ) → Extends L w H → H (img k) ≡ 0 → H k ≡ 1 → ⊥)
          → Won same img ks w ⊎ Unbeaten ks w → Won same img ks w ⊎ Unbeaten (k ∷ ks) v
      passed w back never (inl y) = inl y
      passed w back never (inr u) =
          inr record { drawing = u.drawing; full = u.full; extends = back u.drawing u.extends; stays = λ e. no_more (earlier_cases (copy img u.drawing) u.drawing e) }
        where
          no_more : ((u.drawing (img k) ≡ 0) × (u.drawing k ≡ 1)) ⊎ ((u.drawing (img k) ≡ u.drawing k) × Earlier ks (copy img u.drawing) u.drawing) → ⊥
          no_more (inl z) = never u.drawing u.extends z.0 z.1
          no_more (inr z) = u.stays z.1

      at : {m : Move} → Stepped v img k m → ((v : P → ℕ) → Won same img ks v ⊎ Unbeaten ks v)
          → ((w : P) × (ending m k (walk same img ks (driven same m k (img k) v)) ≡ won w)) ⊎ Unbeaten (k ∷ ks) v
      at (by_itself p) go = passed v (λ H x. x) (λ H x z o. omega (arith, ap H p)) (go v)
      at (winning n a b) go = inl (k, refl)
      at (alike n u b) go = passed v (λ H x. x) (λ H x z o. omega (arith, x k here u, x (img k) there (omega arith))) (go v)
      at (zero_driven n u b) go =
          passed (put same k 0 v) (λ H x. extends_unput tells L k 0 v H u x)
          (λ H x z o. omega (arith, x k here (rw (put_here tells k 0 v) (omega arith)), put_here tells k 0 v))
          (go (put same k 0 v))
      at (one_driven n a u) go =
          passed (put same (img k) 1 v) (λ H x. extends_unput tells L (img k) 1 v H u x)
          (λ H x z o. omega (arith, x (img k) there (rw (put_here tells (img k) 1 v) (omega arith)), put_here tells (img k) 1 v))
          (go (put same (img k) 1 v))
      at (losing n a b) go = inr record { drawing = apart_drawn; full = λ j l. full j; extends = λ j l. extends j (one_or_two tells j k) (one_or_two tells j (img k)); stays = λ e. never (earlier_cases (copy img apart_drawn) apart_drawn e) }
        where
          -- 0 at the pair, 1 at its image
          apart_drawn : P → ℕ
          apart_drawn = put same k 0 (put same (img k) 1 (filled v))

          zero : apart_drawn k ≡ 0
          zero = put_here tells k 0 (put same (img k) 1 (filled v))

          elsewhere : (j : P) → j ≢ k → apart_drawn j ≡ put same (img k) 1 (filled v) j
          elsewhere j m = put_there tells k 0 (put same (img k) 1 (filled v)) j m

          one : apart_drawn (img k) ≡ 1
          one = elsewhere (img k) n ∙ put_here tells (img k) 1 (filled v)

          full : (j : P) → apart_drawn j ≤ 1
          full = put_full same k 0 (put same (img k) 1 (filled v)) (omega arith) (put_full same (img k) 1 (filled v) (omega arith) (filled_full v))

          extends : (j : P) → (j ≡ k) ⊎ (j ≢ k) → (j ≡ img k) ⊎ (j ≢ img k) → v j ≤ 1 → apart_drawn j ≡ v j
          extends j (inl p) q h = omega (arith, ap apart_drawn p, ap v p, zero)
          extends j (inr m) (inl q) h = omega (arith, ap apart_drawn q, ap v q, one)
          extends j (inr m) (inr o) h = elsewhere j m ∙ put_there tells (img k) 1 (filled v) j o ∙ filled_same v j h

          never : ((apart_drawn (img k) ≡ 0) × (apart_drawn k ≡ 1)) ⊎ ((apart_drawn (img k) ≡ apart_drawn k) × Earlier ks (copy img apart_drawn) apart_drawn) → ⊥
          never (inl z) = omega (arith, zero)
          never (inr z) = omega (arith, zero, one)

  -- ---- the two together

  -- where every pair of ks is in L and so is its image: the walk is won exactly where every full drawing that has what is known is beaten
  pub won_means : (ks : List P) → Each L ks → Each (λ k. L (img k)) ks → (v : P → ℕ) → Won same img ks v ↔ Beaten L img ks v
  won_means ks ls is v = (λ w. won_beats ks ls is v w.0 w.1, λ b. at b (won_or_not ks ls is v))
    where
      at : Beaten L img ks v → Won same img ks v ⊎ Unbeaten ks v → Won same img ks v
      at b (inl w) = w
      at b (inr u) = absurd (u.stays (b u.drawing u.full u.extends))

  -- knowing more, a walk that is won stays so
  pub won_more : (ks : List P) → Each L ks → Each (λ k. L (img k)) ks → (v w : P → ℕ) → Extends L v w → Won same img ks v → Won same img ks w
  won_more ks ls is v w x y =
      (won_means ks ls is w).1 (λ H f e. (won_means ks ls is v).0 y H f (λ k l h. omega (arith, x k l h, e k l (omega (arith, x k l h)))))
