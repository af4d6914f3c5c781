-- The numbers that a test chooses from 1..n.
use Prim.Native.Nat.{ℕ, zero, suc, ◌≤◌, ◌<◌}
use Rattle.std.proofs.Common.{arith, sym, ◌∙◌, inl, inr, ⊎_elim}
use Rattle.std.proofs.Math.Nat.{le-suc_iff}
use Rattle.std.specs.Prelude.{◌≡◌, ◌⊎◌, ◌≢◌, Bool}
use Rattle.std.proofs.Math.Path.{refl}
use Rattle.std.proofs.Math.Bool.{true, false}
use Rattle.std.proofs.lemmas.Bool.{false≢true}
use mathlib.Core.List.Memᴰ
use mathlib.Core.List.{List, [], ◌∷◌, ◌++◌, append_assoc, Memᴰ}
use Rattle.laws.specs.Test.{pick}

-- those of 1..n that pass the test, by rising number
unfoldable pub chosen_up_to : (ℕ → Bool) → ℕ → List ℕ
chosen_up_to f zero = []
chosen_up_to f (suc n) =
    let before = chosen_up_to f n in
    pick (f (suc n)) (before ++ (suc n ∷ [])) before

-- each is smaller than all later ones
abbrev pub Ascending : List ℕ → Type 0
Ascending [] = Unit {0}
Ascending (v ∷ vs) = ((w : ℕ) → Memᴰ w vs → v < w) × Ascending vs

-- a larger one at the end keeps a list ascending
ascending_more : (vs : List ℕ) (x : ℕ) → Ascending vs → ((v : ℕ) → Memᴰ v vs → v < x) → Ascending (vs ++ (x ∷ []))
ascending_more [] x a below = (λ w m. absurd (Memᴰ.not-nil m), tt)
ascending_more (v ∷ vs) x a below =
    (λ w m. ⊎_elim (λ (l : Memᴰ w vs). a.0 w l) (λ (r : Memᴰ w (x ∷ [])). let e : w ≡ x = Memᴰ.eq_of_singleton r in rw e (below v (Memᴰ.head refl))) (Memᴰ.append_cases vs m), ascending_more vs x a.1 (λ w m. below w (Memᴰ.tail m)))

module _ (f : ℕ → Bool) where
  -- a number that passes is added
  pub chosen_more : (n : ℕ) → f (suc n) ≡ true → chosen_up_to f (suc n) ≡ chosen_up_to f n ++ (suc n ∷ [])
  unfolding chosen_up_to pick
  chosen_more n e = rw e

  -- another is not
  pub chosen_past : (n : ℕ) → f (suc n) ≡ false → chosen_up_to f (suc n) ≡ chosen_up_to f n
  unfolding chosen_up_to pick
  chosen_past n e = rw e

  -- a chosen one is one of 1..n that passes
  pub chosen_fits : (n v : ℕ) → Memᴰ v (chosen_up_to f n) → (1 ≤ v) × (v ≤ n) × (f v ≡ true)
  unfolding chosen_up_to
  chosen_fits zero v k = absurd (Memᴰ.not-nil k)
  chosen_fits (suc n) v k = go (f (suc n)) refl (λ l. chosen_fits n v l)
    where
      Fits : ℕ → Type 0
      Fits x = (1 ≤ v) × (v ≤ x) × (f v ≡ true)

      go : (t : Bool) → f (suc n) ≡ t → (Memᴰ v (chosen_up_to f n) → Fits n) → Fits (suc n)
      go true q below =
          ⊎_elim (λ (j : Memᴰ v (chosen_up_to f n)). ((below j).0, omega (arith, (below j).1), (below j).2))
          (λ (j : Memᴰ v (suc n ∷ [])). let e : v ≡ suc n = Memᴰ.eq_of_singleton j in (omega arith, omega arith, rw e q))
          (Memᴰ.append_cases (chosen_up_to f n) (rw (chosen_more n q) at k))
      go false q below = let l : Memᴰ v (chosen_up_to f n) = rw (chosen_past n q) at k in ((below l).0, omega (arith, (below l).1), (below l).2)

  -- each of 1..n that passes is chosen
  pub is_chosen : (n v : ℕ) → 1 ≤ v → v ≤ n → f v ≡ true → Memᴰ v (chosen_up_to f n)
  is_chosen zero v low high e = absurd (omega arith)
  is_chosen (suc n) v low high e = go (f (suc n)) refl (le-suc_iff.0 high) (λ h. is_chosen n v low h e)
    where
      go : (t : Bool) → f (suc n) ≡ t → (v ≤ n) ⊎ (v ≡ suc n) → (v ≤ n → Memᴰ v (chosen_up_to f n)) → Memᴰ v (chosen_up_to f (suc n))
      go true q (inl h) below = rw (chosen_more n q) (Memᴰ.append_left (suc n ∷ []) (below h))
      go true q (inr h) below = rw (chosen_more n q) (Memᴰ.append_right (chosen_up_to f n) (Memᴰ.head h))
      go false q (inl h) below = rw (chosen_past n q) (below h)
      go false q (inr h) below = absurd (false≢true (sym q ∙ rw h at e))

  -- they stand by rising number
  pub chosen_ascend : (n : ℕ) → Ascending (chosen_up_to f n)
  unfolding chosen_up_to
  chosen_ascend zero = tt
  chosen_ascend (suc n) = go (f (suc n)) refl (chosen_ascend n)
    where
      go : (t : Bool) → f (suc n) ≡ t → Ascending (chosen_up_to f n) → Ascending (chosen_up_to f (suc n))
      go true q a = rw (chosen_more n q) (ascending_more (chosen_up_to f n) (suc n) a (λ v k. omega (arith, (chosen_fits n v k).1)))
      go false q a = rw (chosen_past n q) a

  -- where none passes none is chosen
  pub chosen_none : (n : ℕ) → ((v : ℕ) → 1 ≤ v → v ≤ n → f v ≡ false) → chosen_up_to f n ≡ []
  unfolding chosen_up_to
  chosen_none zero h = refl
  chosen_none (suc n) h = chosen_past n (h (suc n) (omega arith) (omega arith)) ∙ chosen_none n (λ v l u. h v l (omega arith))

-- one more number under two tests that agree on it
more_same : (f g : ℕ → Bool) (n : ℕ) (vs : List ℕ) → f (suc n) ≡ g (suc n) → chosen_up_to f n ≡ vs ++ chosen_up_to g n → chosen_up_to f (suc n) ≡ vs ++ chosen_up_to g (suc n)
more_same f g n vs e h = go (g (suc n)) refl
  where
    go : (t : Bool) → g (suc n) ≡ t → chosen_up_to f (suc n) ≡ vs ++ chosen_up_to g (suc n)
    go true q = chosen_more f n (e ∙ q) ∙ rw (chosen_more g n q, h) (append_assoc vs (chosen_up_to g n) (suc n ∷ []))
    go false q = chosen_past f n (e ∙ q) ∙ rw (chosen_past g n q) h

-- tests that agree on 1..n choose the same
pub chosen_same : (f g : ℕ → Bool) (n : ℕ) → ((v : ℕ) → 1 ≤ v → v ≤ n → f v ≡ g v) → chosen_up_to f n ≡ chosen_up_to g n
unfolding chosen_up_to
chosen_same f g zero h = refl
chosen_same f g (suc n) h = more_same f g n [] (h (suc n) (omega arith) (omega arith)) (chosen_same f g n (λ v l u. h v l (omega arith)))

-- the smallest that passes comes first, and then those of the test without it
pub chosen_first : (f g : ℕ → Bool) (n v : ℕ) → 1 ≤ v → v ≤ n → f v ≡ true → ((w : ℕ) → 1 ≤ w → w < v → f w ≡ false) → g v ≡ false → ((w : ℕ) → 1 ≤ w → w ≤ n → w ≢ v → f w ≡ g w) → chosen_up_to f n ≡ v ∷ chosen_up_to g n
chosen_first f g zero v low high passes least gone same = absurd (omega arith)
chosen_first f g (suc n) v low high passes least gone same =
    ⊎_elim (λ (h : v ≤ n). more_same f g n (v ∷ []) (same (suc n) (omega arith) (omega arith) (omega arith)) (chosen_first f g n v low h passes least gone (λ w a b c. same w a (omega arith) c)))
    (λ (e : v ≡ suc n).
    let past : chosen_up_to g (suc n) ≡ [] = chosen_none g (suc n) (λ w a b. none w a b (le-suc_iff.0 b) e) in
    let none_f : chosen_up_to f n ≡ [] = chosen_none f n (λ w a b. least w a (omega arith)) in
    chosen_more f n (rw e at passes) ∙ rw (none_f, past, e) refl)
    (le-suc_iff.0 high)
  where
    none : (w : ℕ) → 1 ≤ w → w ≤ suc n → (w ≤ n) ⊎ (w ≡ suc n) → v ≡ suc n → g w ≡ false
    none w a b (inl c) e = sym (same w a b (omega arith)) ∙ least w a (omega arith)
    none w a b (inr c) e = rw (c ∙ sym e) gone
