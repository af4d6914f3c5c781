-- A standing pair makes the walk won; on a full drawing it is the winning pair.
use Prim.Native.Nat.{ℕ, ◌≤◌}
use native.Mathlib.Omega.{arith}
use native.Mathlib.Decide.{ℕ_discrete}
use mathlib.Core.Path.{◌≡◌, refl, ap, ◌∙◌}
use mathlib.Core.Logic.{◌⊎◌, inl, inr, ◌↔◌}
use mathlib.Core.Bool.{Bool}
use mathlib.Core.List.Memᴰ
use mathlib.Core.List.{List, [], ◌∷◌, ◌++◌}
use Rattle.laws.specs.Each.{Each, each_none, each_cons, each_first, each_rest}
use Rattle.walk.specs.Walk.{Tells, Move, ending, driven, walk, won}
use Rattle.walk.specs.Meaning.{Full, Extends, Won}
use Rattle.walk.specs.Earlier.{Earlier, copy}
use Rattle.walk.specs.Standing.{Holds, Wins, StandsIn}
use Rattle.walk.proofs.Order.{earlier_here, earlier_under}
use Rattle.walk.proofs.Step.{Stepped, by_itself, winning, alike, zero_driven, one_driven, losing, stepped}
use Rattle.walk.proofs.Meaning.{lost_not_won, open_not_won, won_means}

module _ {P : Type 0} (L : P → Type 0) (img : P → P) (v H : P → ℕ) (full : Full L H) (extends : Extends L v H) where
  -- where the pairs xs hold, and then a is 1 and b is 0, the copy is earlier
  standing_earlier : (xs : List P) (k : P) (ys : List P) → Each L (xs ++ k ∷ ys) → Each (λ j. L (img j)) (xs ++ k ∷ ys)
      → Each (Holds v img) xs → v k ≡ 1 → v (img k) ≡ 0 → Earlier (xs ++ k ∷ ys) (copy img H) H
  standing_earlier [] k ys ls is h a b =
      earlier_here (copy img H) H (omega (arith, extends (img k) (each_first (λ j. L (img j)) is) (omega arith))) (omega (arith, extends k (each_first L ls) (omega arith)))
  standing_earlier (j ∷ xs) k ys ls is h a b =
      earlier_under (copy img H) H (under (each_first (Holds v img) h)) (full j here)
      (standing_earlier xs k ys (each_rest L ls) (each_rest (λ i. L (img i)) is) (each_rest (Holds v img) h) a b)
    where
      here : L j
      here = each_first L ls

      there : L (img j)
      there = each_first (λ i. L (img i)) is

      under : (v j ≡ 1) ⊎ (v (img j) ≡ 0) ⊎ (img j ≡ j) → H (img j) ≤ H j
      under (inl e) = omega (arith, extends j here (omega arith), full (img j) there)
      under (inr (inl e)) = omega (arith, extends (img j) there (omega arith))
      under (inr (inr e)) = omega (arith, ap H e)

-- so the walk is won
pub standing_won : {P : Type 0} {same : P → P → Bool} → Tells same → (L : P → Type 0) (img : P → P) (ks : List P) → Each L ks → Each (λ k. L (img k)) ks
    → (v : P → ℕ) (k : P) → StandsIn v img ks k → Won same img ks v
standing_won tells L img ks ls is v k s =
    (won_means tells L img ks ls is v).1
    (λ H f x. rw s.split (standing_earlier L img v H f x s.before k s.after (rw s.split at ls) (rw s.split at is) s.holding s.wins.0 s.wins.1))

-- ---- full drawings

module _ {P : Type 0} {same : P → P → Bool} (tells : Tells same) (v : P → ℕ) (img : P → P) where
  -- a pair that holds and doesn't win changes nothing
  holds_on : (k : P) (ks : List P) → v k ≤ 1 → v (img k) ≤ 1 → Holds v img k → ¬ Wins v img k → walk same img (k ∷ ks) v ≡ walk same img ks v
  unfolding walk ending driven
  holds_on k ks a b h n = at (stepped tells v img k)
    where
      at : {m : Move} → Stepped v img k m → ending m k (walk same img ks (driven same m k (img k) v)) ≡ walk same img ks v
      at (by_itself p) = refl
      at (winning m p q) = absurd (n (p, q))
      at (alike m p q) = refl
      at (zero_driven m p q) = absurd (omega arith)
      at (one_driven m p q) = absurd (omega arith)
      at (losing m p q) = absurd (fails h)
        where
          fails : (v k ≡ 1) ⊎ (v (img k) ≡ 0) ⊎ (img k ≡ k) → ⊥
          fails (inl e) = p e
          fails (inr (inl e)) = q e
          fails (inr (inr e)) = m e

  wins_here : (k : P) (ks : List P) → Wins v img k → walk same img (k ∷ ks) v ≡ won k
  unfolding walk ending driven
  wins_here k ks w = at (stepped tells v img k)
    where
      at : {m : Move} → Stepped v img k m → ending m k (walk same img ks (driven same m k (img k) v)) ≡ won k
      at (by_itself p) = absurd (omega (arith, w.0, w.1, ap v p))
      at (winning m p q) = refl
      at (alike m p q) = absurd (omega (arith, w.0, w.1))
      at (zero_driven m p q) = absurd (omega (arith, w.0))
      at (one_driven m p q) = absurd (omega (arith, w.1))
      at (losing m p q) = absurd (p w.0)

  stands_won : (xs : List P) (k : P) (ys : List P) → Each (λ j. v j ≤ 1) xs → Each (λ j. v (img j) ≤ 1) xs → Each (Holds v img) xs → Each (λ j. ¬ Wins v img j) xs → Wins v img k
      → walk same img (xs ++ k ∷ ys) v ≡ won k
  stands_won [] k ys a b h n w = wins_here k ys w
  stands_won (j ∷ xs) k ys a b h n w =
      holds_on j (xs ++ k ∷ ys) (each_first (λ j. v j ≤ 1) a) (each_first (λ j. v (img j) ≤ 1) b) (each_first (Holds v img) h) (each_first (λ j. ¬ Wins v img j) n)
      ∙ stands_won xs k ys (each_rest (λ j. v j ≤ 1) a) (each_rest (λ j. v (img j) ≤ 1) b) (each_rest (Holds v img) h) (each_rest (λ j. ¬ Wins v img j) n) w

  won_stands : (ks : List P) → Each (λ j. v j ≤ 1) ks → Each (λ j. v (img j) ≤ 1) ks → (k : P) → walk same img ks v ≡ won k → StandsIn v img ks k
  unfolding walk ending driven
  won_stands [] a b k e = absurd (open_not_won e)
  won_stands (j ∷ ks) a b k e = at (stepped tells v img j) e (won_stands ks (each_rest (λ j. v j ≤ 1) a) (each_rest (λ j. v (img j) ≤ 1) b) k)
    where
      later : Holds v img j → ¬ Wins v img j → StandsIn v img ks k → StandsIn v img (j ∷ ks) k
      later h n s =
          record {
            before = j ∷ s.before;
            after = s.after;
            split = ap (λ l. j ∷ l) s.split;
            holding = each_cons (Holds v img) h s.holding;
            none = each_cons (λ j. ¬ Wins v img j) n s.none;
            wins = s.wins;
          }

      known : v j ≤ 1
      known = each_first (λ j. v j ≤ 1) a

      known_image : v (img j) ≤ 1
      known_image = each_first (λ j. v (img j) ≤ 1) b

      at : {m : Move} → Stepped v img j m → ending m j (walk same img ks (driven same m j (img j) v)) ≡ won k → (walk same img ks v ≡ won k → StandsIn v img ks k) → StandsIn v img (j ∷ ks) k
      at (by_itself p) e go = later (inr (inr p)) (λ w. omega (arith, w.0, w.1, ap v p)) (go e)
      at (winning m p q) e go =
          let here : j ≡ k = cc in
          record { before = []; after = ks; split = ap (λ i. i ∷ ks) here; holding = each_none (Holds v img); none = each_none (λ j. ¬ Wins v img j); wins = rw (← here) (p, q) }
      at (alike m p q) e go = later (holds (ℕ_discrete (v j) 1)) (λ w. omega (arith, w.0, w.1)) (go e)
        where
          holds : Dec (v j ≡ 1) → (v j ≡ 1) ⊎ (v (img j) ≡ 0) ⊎ (img j ≡ j)
          holds (yes o) = inl o
          holds (no o) = inr (inl (omega arith))
      at (zero_driven m p q) e go = absurd (omega (arith, known))
      at (one_driven m p q) e go = absurd (omega (arith, known_image))
      at (losing m p q) e go = absurd (lost_not_won e)

  -- on a full drawing the walk is won exactly at the standing pair
  pub full_standing : (ks : List P) → Each (λ j. v j ≤ 1) ks → Each (λ j. v (img j) ≤ 1) ks → (k : P) → (walk same img ks v ≡ won k) ↔ StandsIn v img ks k
  full_standing ks a b k = (won_stands ks a b k, from)
    where
      first : (A : P → Type 0) (xs ys : List P) → Each A (xs ++ ys) → Each A xs
      first A xs ys h j m = h j (Memᴰ.append_left ys m)

      from : StandsIn v img ks k → walk same img ks v ≡ won k
      from s =
          let rest : List P = k ∷ s.after in
          rw s.split
          (stands_won s.before k s.after (first (λ j. v j ≤ 1) s.before rest (rw s.split at a)) (first (λ j. v (img j) ≤ 1) s.before rest (rw s.split at b)) s.holding s.none s.wins)
