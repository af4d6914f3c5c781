-- Every full drawing has a permitted copy that is at or before every permitted copy, one as a drawing of the compared pairs, and it
-- breaks no clause ever written.
use Prim.Native.Nat.{ℕ, zero, suc, ◌≤◌, ◌<◌}
use native.Mathlib.Omega.{arith}
use mathlib.Core.Path.{◌≡◌, refl, sym, ap, ◌∙◌}
use mathlib.Core.Logic.{◌⊎◌, inl, inr}
use mathlib.Core.List.{List, Memᴰ}
use Rattle.laws.specs.Each.{Each}
use Rattle.laws.specs.Pigeonhole.{Injects}
use Rattle.laws.specs.UpToLaws.{list_at}
use Rattle.walk.specs.Clause.{Breaks}
use Rattle.walk.proofs.Order.{earlier_irreflexive, earlier_transitive, earlier_trichotomy, earlier_alike}
use Rattle.beginnings.specs.Beginning.{at}
use Rattle.schemes.specs.Scheme.{Scheme, image, Lawful}
use Rattle.schemes.specs.Judging.{Arranges, identity, composed, FullOn, copy_by, Comes, needed_by, steps_for, Certified, EarlierCopy, Smallest, AtOrBefore, LeastBy}
use Rattle.schemes.proofs.Images.{image_alike, image_listed, image_identity, image_composed}
use Rattle.schemes.proofs.Arranging.{identity_arranges, composed_arranges}
use Rattle.schemes.proofs.Inverse.{inverse, inverse_before, inverse_arranges}
use Rattle.schemes.specs.Answer.{Answer, InWords, budget_short, no_certificate, first_certificate}
use Rattle.schemes.proofs.Exact.{answered}
use Rattle.walk.proofs.Weight.{weight, earlier_lighter}
use Rattle.schemes.proofs.Smallest.{full_certified, smallest_alike, smallest_unbroken}

-- q is permitted and no permitted copy of the copy by q comes before it
record SmallestBy {P : Type 0} (n : ℕ) (s : Scheme P) (block : ℕ → ℕ) (H : P → ℕ) (q : List ℕ) : Type 0 where
  permitted : Arranges n block q
  smallest : Smallest n s block (copy_by s q H)

module _ {P : Type 0} {n : ℕ} {s : Scheme P} (lawful : Lawful n s) (block : ℕ → ℕ) where
  -- ---- copies of copies

  pub copy_full : (H : P → ℕ) → FullOn s H → (p : List ℕ) → Injects n n (at p) → FullOn s (copy_by s p H)
  copy_full H f p r k m = f (image s p k) (image_listed lawful p r k m)

  pub copy_identity : (H : P → ℕ) → Each (λ k. copy_by s (identity n) H k ≡ H k) s.pairs
  copy_identity H k m = ap H (image_identity lawful k m)

  -- the copy by q of the copy by p is the copy by p composed with q
  pub copy_twice : (H : P → ℕ) (p q : List ℕ) → Injects n n (at q) → Each (λ k. copy_by s (composed n p q) H k ≡ copy_by s q (copy_by s p H) k) s.pairs
  copy_twice H p q r k m = ap H (image_composed lawful p q r k m)

  -- every permitted copy of H is one of each permitted copy of H
  pub copy_through : (H : P → ℕ) (q p : List ℕ) → Arranges n block q → Arranges n block p
      → (t : List ℕ) × Arranges n block t × Each (λ k. copy_by s t (copy_by s q H) k ≡ copy_by s p H k) s.pairs
  copy_through H q p a b =
      let i = inverse_arranges n block q a in
      let t = composed n (inverse n q) p in
      let c : Arranges n block t = composed_arranges n block (inverse n q) p i b in
      let back : (j : ℕ) → 1 ≤ j → j ≤ n → at (composed n q t) j ≡ at p j = λ j l h.
      list_at (λ j. at q (at t j)) n j 0 l h ∙ ap (at q) (list_at (λ j. at (inverse n q) (at p j)) n j 0 l h)
      ∙ inverse_before n q a.reorders (at p j) (b.reorders.low j l h) (b.reorders.high j l h) in
      (t, c, λ k m. sym (copy_twice H q t c.reorders k m) ∙ ap H (image_alike lawful (composed n q t) p back k m))

  -- ---- a smallest copy

  module _ (low : 1 ≤ n) where
    -- judging decides whether there is a certificate
    pub certified_or_none : (v : P → ℕ) → ((p : List ℕ) × Certified n s block v p) ⊎ ((p : List ℕ) → ¬ Certified n s block v p)
    certified_or_none v = go (answered lawful low block v (steps_for n s block v))
      where
        go : {a : Answer P} → InWords n s block v (steps_for n s block v) a → ((p : List ℕ) × Certified n s block v p) ⊎ ((p : List ℕ) → ¬ Certified n s block v p)
        go (budget_short l) = absurd (omega arith)
        go (no_certificate l h) = inr h
        go (first_certificate l {p} f w) = inl (p, f.certified)

    -- judging copy after copy ends, as each is a smaller number than the one before it
    descend : (m : ℕ) (H : P → ℕ) → FullOn s H → weight H s.pairs < m → (q : List ℕ) × SmallestBy n s block H q
    descend zero H f l = absurd (omega arith)
    descend (suc m) H f l = go (certified_or_none H) (descend m)
      where
        go : ((p : List ℕ) × Certified n s block H p) ⊎ ((p : List ℕ) → ¬ Certified n s block H p)
            → ((K : P → ℕ) → FullOn s K → weight K s.pairs < m → (q : List ℕ) × SmallestBy n s block K q) → (q : List ℕ) × SmallestBy n s block H q
        go (inl c) below =
            let p : List ℕ = c.0 in
            let a : Arranges n block p = c.1.permitted in
            let g : FullOn s (copy_by s p H) = copy_full H f p a.reorders in
            let e : EarlierCopy n s block H p = (full_certified lawful block H f p).0 c.1 in
            let r = below (copy_by s p H) g (omega (arith, earlier_lighter (copy_by s p H) H s.pairs g e.earlier)) in
            let q : List ℕ = r.0 in (
              composed n p q,
              record {
                permitted = composed_arranges n block p q a r.1.permitted;
                smallest = smallest_alike lawful block (copy_by s q (copy_by s p H)) (copy_by s (composed n p q) H) (copy_twice H p q r.1.permitted.reorders) r.1.smallest;
              },
            )
        go (inr nowhere) below = (
          identity n,
          record {
            permitted = identity_arranges n block;
            smallest = smallest_alike lawful block H (copy_by s (identity n) H) (copy_identity H) (λ p e. nowhere p ((full_certified lawful block H f p).1 e));
          },
        )

    -- ---- the least copy

    -- a permitted copy of which no permitted copy is earlier is at or before every permitted copy
    smallest_least : (H : P → ℕ) → FullOn s H → (q : List ℕ) → SmallestBy n s block H q → LeastBy n s block H q
    smallest_least H f q a =
        record { permitted = a.permitted; least = λ p b. go p b (earlier_trichotomy (copy_by s q H) (copy_by s p H) s.pairs (copy_full H f q a.permitted.reorders) (copy_full H f p b.reorders)) }
      where
        go : (p : List ℕ) → Arranges n block p → Comes s (copy_by s q H) (copy_by s p H) ⊎ Comes s (copy_by s p H) (copy_by s q H) ⊎ Each (λ k. copy_by s q H k ≡ copy_by s p H k) s.pairs
            → AtOrBefore s (copy_by s q H) (copy_by s p H)
        go p b (inl e) = inr e
        go p b (inr (inl e)) =
            let t = copy_through H q p a.permitted b in
            absurd (a.smallest t.0 (record { permitted = t.1; earlier = earlier_alike s.pairs (copy_by s p H) (copy_by s q H) (copy_by s t.0 (copy_by s q H)) (copy_by s q H) t.2 (λ k m. refl) e }))
        go p b (inr (inr e)) = inl e

    -- every full drawing has such a copy
    pub least_copy : (H : P → ℕ) → FullOn s H → (q : List ℕ) × LeastBy n s block H q
    least_copy H f = let r = descend (suc (weight H s.pairs)) H f (omega arith) in (r.0, smallest_least H f r.0 r.1)

  -- no permitted copy of it is earlier
  pub least_smallest : (H : P → ℕ) (q : List ℕ) → LeastBy n s block H q → Smallest n s block (copy_by s q H)
  least_smallest H q l p e =
      go (l.least (composed n q p) (composed_arranges n block q p l.permitted e.permitted))
    where
      K : P → ℕ
      K = copy_by s q H

      earlier : Comes s (copy_by s (composed n q p) H) K
      earlier = earlier_alike s.pairs (copy_by s p K) K (copy_by s (composed n q p) H) K (copy_twice H q p e.permitted.reorders) (λ k m. refl) e.earlier

      go : AtOrBefore s K (copy_by s (composed n q p) H) → ⊥
      go (inl same) = earlier_irreflexive K s.pairs (earlier_alike s.pairs (copy_by s (composed n q p) H) K K K same (λ k m. refl) earlier)
      go (inr f) = earlier_irreflexive K s.pairs (earlier_transitive K (copy_by s (composed n q p) H) K s.pairs f earlier)

  -- two such copies are one drawing
  pub least_unique : (H : P → ℕ) (q t : List ℕ) → LeastBy n s block H q → LeastBy n s block H t → Each (λ k. copy_by s q H k ≡ copy_by s t H k) s.pairs
  least_unique H q t l m = go (l.least t m.permitted) (m.least q l.permitted)
    where
      go : AtOrBefore s (copy_by s q H) (copy_by s t H) → AtOrBefore s (copy_by s t H) (copy_by s q H) → Each (λ k. copy_by s q H k ≡ copy_by s t H k) s.pairs
      go (inl e) y = e
      go (inr e) (inl f) = λ k i. sym (f k i)
      go (inr e) (inr f) = absurd (earlier_irreflexive (copy_by s q H) s.pairs (earlier_transitive (copy_by s q H) (copy_by s t H) (copy_by s q H) s.pairs e f))

  -- it breaks the clause of no certificate for the scheme, order and blocks, by any numbering that has every compared pair
  pub least_survives : (numbering : List P) → Each (λ k. Memᴰ k numbering) s.pairs → (H : P → ℕ) → FullOn s H → (q : List ℕ) → LeastBy n s block H q
      → (v : P → ℕ) (p : List ℕ) → Certified n s block v p → ¬ Breaks (needed_by s numbering v p) (copy_by s q H)
  least_survives numbering all H f q l v p c =
      smallest_unbroken lawful block numbering all (copy_by s q H) (copy_full H f q l.permitted.reorders) (least_smallest H q l) v p c
