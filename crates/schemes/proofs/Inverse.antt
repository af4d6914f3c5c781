-- The inverse of an arrangement undoes it, and is permitted where the arrangement is.
use Prim.Native.Nat.{ℕ, zero, suc, ◌≤◌}
use native.Mathlib.Omega.{arith}
use mathlib.Core.Path.{◌≡◌, sym, ap, ◌∙◌}
use mathlib.Core.List.{List}
use lib.Dec.{eqb}
use borrow.Author.Tests.{eq-eqb, ne_eqb}
use Rattle.laws.specs.Compared.{by_below, by_same}
use Rattle.laws.specs.TestLaws.{pick_true, pick_false}
use Rattle.laws.specs.Pigeonhole.{Injects, each_taken}
use Rattle.laws.specs.UpTo.{list_up_to}
use Rattle.laws.specs.UpToLaws.{list_at}
use Rattle.beginnings.specs.Beginning.{at}
use Rattle.schemes.specs.Judging.{Arranges}
use Rattle.schemes.specs.Free.{place_of}
use Rattle.schemes.proofs.Images.{one_place}

-- the inverse puts at v the place at which p has v
abbrev pub inverse : ℕ → List ℕ → List ℕ
inverse n p = list_up_to (place_of (at p) n) n

module _ (f : ℕ → ℕ) where
  pub place_high : (n v : ℕ) → place_of f n v ≤ n
  unfolding place_of
  place_high zero v = omega arith
  place_high (suc n) v =
      by_same (f (suc n)) v (λ e. rw (pick_true (eqb (f (suc n)) v) (suc n) (place_of f n v) (eq-eqb (f (suc n)) v e)) (omega arith))
      (λ d. rw (pick_false (eqb (f (suc n)) v) (suc n) (place_of f n v) (ne_eqb (f (suc n)) v d)) (omega (arith, place_high n v)))

  -- where it is not 0, the vertex is there
  pub place_holds : (n v : ℕ) → 1 ≤ place_of f n v → f (place_of f n v) ≡ v
  unfolding place_of
  place_holds zero v h = absurd (omega arith)
  place_holds (suc n) v h =
      by_same (f (suc n)) v (λ e. rw (pick_true (eqb (f (suc n)) v) (suc n) (place_of f n v) (eq-eqb (f (suc n)) v e)) e)
      (λ d. let q = pick_false (eqb (f (suc n)) v) (suc n) (place_of f n v) (ne_eqb (f (suc n)) v d) in rw q (place_holds n v (rw q at h)))

  -- and no later place has it
  pub place_last : (n v i : ℕ) → 1 ≤ i → i ≤ n → f i ≡ v → i ≤ place_of f n v
  unfolding place_of
  place_last zero v i l h e = absurd (omega arith)
  place_last (suc n) v i l h e =
      by_same (f (suc n)) v (λ q. rw (pick_true (eqb (f (suc n)) v) (suc n) (place_of f n v) (eq-eqb (f (suc n)) v q)) h)
      (λ d. rw (pick_false (eqb (f (suc n)) v) (suc n) (place_of f n v) (ne_eqb (f (suc n)) v d))
      (by_same i (suc n) (λ q. absurd (d (ap f (sym q) ∙ e))) (λ a. place_last n v i l (omega arith) e)))

  module _ (n : ℕ) (r : Injects n n f) where
    place_low : (v : ℕ) → 1 ≤ v → v ≤ n → 1 ≤ place_of f n v
    place_low v l h =
        by_below 0 (place_of f n v) (λ k. k)
        (λ z. absurd (each_taken n f r v l h (λ i li hi e. omega (arith, place_last n v i li hi e))))

    at_place : (v : ℕ) → 1 ≤ v → v ≤ n → f (place_of f n v) ≡ v
    at_place v l h = place_holds n v (place_low v l h)

module _ (n : ℕ) (p : List ℕ) (r : Injects n n (at p)) where
  pub inverse_at : (v : ℕ) → 1 ≤ v → v ≤ n → at (inverse n p) v ≡ place_of (at p) n v
  inverse_at v l h = list_at (place_of (at p) n) n v 0 l h

  -- the inverse and then p
  pub inverse_before : (v : ℕ) → 1 ≤ v → v ≤ n → at p (at (inverse n p) v) ≡ v
  inverse_before v l h = ap (at p) (inverse_at v l h) ∙ at_place (at p) n r v l h

  -- the inverse of a reordering is one
  pub inverse_reorders : Injects n n (at (inverse n p))
  inverse_reorders =
      record {
        low = λ v l h. rw (inverse_at v l h) (place_low (at p) n r v l h);
        high = λ v l h. rw (inverse_at v l h) (place_high (at p) n v);
        once = λ v u l d h e.
            let same : v ≡ u = sym (inverse_before v (omega arith) h) ∙ ap (at p) e ∙ inverse_before u l (omega arith) in
            omega arith;
      }

  -- p and then the inverse
  pub inverse_after : (i : ℕ) → 1 ≤ i → i ≤ n → at (inverse n p) (at p i) ≡ i
  inverse_after i l h =
      let lv = r.low i l h in
      let hv = r.high i l h in
      one_place n (at p) r (at (inverse n p) (at p i)) i (inverse_reorders.low (at p i) lv hv) (inverse_reorders.high (at p i) lv hv) l h (inverse_before (at p i) lv hv)

-- the inverse of a permitted arrangement is permitted
pub inverse_arranges : (n : ℕ) (block : ℕ → ℕ) (p : List ℕ) → Arranges n block p → Arranges n block (inverse n p)
inverse_arranges n block p a =
    let r = inverse_reorders n p a.reorders in
    record {
      reorders = r;
      in_block = λ v l h.
          sym (a.in_block (at (inverse n p) v) (r.low v l h) (r.high v l h)) ∙ ap block (inverse_before n p a.reorders v l h);
    }
