-- Images of pairs under an arrangement: they are listed, no two are the same, and composing arrangements composes them.
use Prim.Native.Nat.{ℕ, ◌≤◌, ◌<◌}
use native.Mathlib.Omega.{arith}
use mathlib.Core.Path.{◌≡◌, sym, ap₂, ◌∙◌}
use mathlib.Core.List.Memᴰ
use mathlib.Core.List.{List, ◌++◌}
use lib.ListN.{length, get_or-append}
use Rattle.laws.specs.Compared.{by_order}
use Rattle.laws.specs.Each.{Each}
use Rattle.laws.specs.Pigeonhole.{Injects}
use Rattle.laws.specs.UpToLaws.{list_at}
use Rattle.beginnings.specs.Beginning.{at}
use Rattle.schemes.specs.Scheme.{Scheme, image, Listed, Two, Named, as_given, turned, Lawful}
use Rattle.schemes.specs.Judging.{identity, composed}

-- a place has one vertex, and no other place has it
pub one_place : (n : ℕ) (f : ℕ → ℕ) → Injects n n f → (i j : ℕ) → 1 ≤ i → i ≤ n → 1 ≤ j → j ≤ n → f i ≡ f j → i ≡ j
one_place n f r i j li hi lj hj e =
    by_order i j (λ l. absurd (r.once j i li l hj (sym e))) (λ q. q) (λ l. absurd (r.once i j lj l hi e))

-- two places have two vertices
pub two_kept : (n : ℕ) (f : ℕ → ℕ) → Injects n n f → {u v : ℕ} → Two n u v → Two n (f u) (f v)
two_kept n f r {u} {v} t =
    record {
      low = r.low u t.low t.high;
      high = r.high u t.low t.high;
      low' = r.low v t.low' t.high';
      high' = r.high v t.low' t.high';
      apart = λ e. t.apart (one_place n f r u v t.low t.high t.low' t.high' e);
    }

module _ {P : Type 0} {n : ℕ} {s : Scheme P} (lawful : Lawful n s) where
  -- the image depends on the places 1..n alone
  pub image_alike : (p q : List ℕ) → ((i : ℕ) → 1 ≤ i → i ≤ n → at p i ≡ at q i) → Each (λ k. image s p k ≡ image s q k) s.pairs
  image_alike p q e k m =
      let t = lawful.places k m in
      ap₂ s.of_two (e (s.first k) t.low t.high) (e (s.second k) t.low' t.high')

  -- the image of the pair of two is the pair of their vertices
  pub image_two : (p : List ℕ) (u v : ℕ) → Two n u v → image s p (s.of_two u v) ≡ s.of_two (at p u) (at p v)
  image_two p u v t = go (lawful.named u v t)
    where
      go : Named s u v → image s p (s.of_two u v) ≡ s.of_two (at p u) (at p v)
      go (as_given a b) = ap₂ (λ x y. s.of_two (at p x) (at p y)) a b
      go (turned a b flip) = ap₂ (λ x y. s.of_two (at p x) (at p y)) a b ∙ flip (at p v) (at p u)

  -- the identity leaves each pair
  pub image_identity : Each (λ k. image s (identity n) k ≡ k) s.pairs
  image_identity k m =
      let t = lawful.places k m in
      ap₂ s.of_two (list_at (λ i. i) n (s.first k) 0 t.low t.high) (list_at (λ i. i) n (s.second k) 0 t.low' t.high')
      ∙ lawful.spelt k m

  -- the pairs on which b is judged have the same images when b is extended
  pub image_extended : (b c : List ℕ) → 1 ≤ length b → length b < n → Each (λ k. image s (b ++ c) k ≡ image s b k) (s.judged_on (length b))
  image_extended b c l h k m =
      let w = lawful.starts (length b) l h in
      let t : Two n (s.first k) (s.second k) = lawful.places k (rw w.split (Memᴰ.append_left w.rest m)) in
      ap₂ s.of_two (get_or-append b c 0 _ (omega (arith, t.low, w.first_within k m))) (get_or-append b c 0 _ (omega (arith, t.low', w.second_within k m)))

  module _ (p : List ℕ) (r : Injects n n (at p)) where
    -- the image of a listed pair is listed
    pub image_listed : Each (λ k. Listed s (image s p k)) s.pairs
    image_listed k m = lawful.listed _ _ (two_kept n (at p) r (lawful.places k m))

  -- the image by p composed with q is the image by p of the image by q
  pub image_composed : (p q : List ℕ) → Injects n n (at q) → Each (λ k. image s (composed n p q) k ≡ image s p (image s q k)) s.pairs
  image_composed p q r k m =
      let t = lawful.places k m in
      ap₂ s.of_two (list_at (λ i. at p (at q i)) n (s.first k) 0 t.low t.high) (list_at (λ i. at p (at q i)) n (s.second k) 0 t.low' t.high')
      ∙ sym (image_two p (at q (s.first k)) (at q (s.second k)) (two_kept n (at q) r t))
