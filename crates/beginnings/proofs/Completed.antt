-- A beginning extended by first children is an arrangement, and of all that extend it the first in dictionary order.
use Prim.Native.Nat.{ℕ, zero, suc, ◌+◌, ◌-◌, ◌≤◌, ◌<◌}
use native.Mathlib.Omega.{arith}
use mathlib.Core.Path.{◌≡◌, refl, sym, ◌∙◌}
use mathlib.Core.Logic.{◌⊎◌, inl, inr, ⊎_elim}
use mathlib.Core.List.{List, [], ◌∷◌, ◌++◌, append-nil, Memᴰ}
use lib.ListN.{length, length-append}
use lib.Seq.{append_snoc}
use Rattle.beginnings.specs.Beginning.{Beginning, children}
use Rattle.beginnings.specs.Certificate.{with_first, completed}
use Rattle.beginnings.specs.Order.{Before}
use Rattle.beginnings.proofs.Children.{Child, child_of_mem, mem_of_child, children_ascend}
use Rattle.beginnings.proofs.Follows.{Follows, length_more, follows_append, follows_rest, beginning_follows, beginning_of}
use Rattle.beginnings.proofs.Room.{has_child}
use Rattle.beginnings.proofs.Order.{before_append}

module _ (n : ℕ) (block : ℕ → ℕ) where
  -- the first child, where the children are known
  pub first_child : (b : List ℕ) (v : ℕ) (vs : List ℕ) → children n block b ≡ v ∷ vs → with_first n block b ≡ b ++ (v ∷ [])
  unfolding with_first
  first_child b v vs e = rw e

  -- with no place left b is complete
  pub completed_none : (b : List ℕ) → completed n block 0 b ≡ b
  unfolding completed
  completed_none b = refl

  -- one turn: b with its first child is completed
  pub completed_more : (left : ℕ) (b : List ℕ) → completed n block (suc left) b ≡ completed n block left (with_first n block b)
  unfolding completed
  completed_more left b = refl

  -- a walk with a child of it
  walk_more : (b : List ℕ) (v : ℕ) → Follows n block [] b → Child n block b v → Follows n block [] (b ++ (v ∷ []))
  walk_more b v f c = follows_append n block [] b (v ∷ []) f (c, tt)

  -- b is completed by a walk of so many vertices
  record Completes (left : ℕ) (b : List ℕ) : Type 0 where
    part : List ℕ
    joined : completed n block left b ≡ b ++ part
    long : length part ≡ left
    follows : Follows n block b part

  completes : (left : ℕ) (b : List ℕ) → Follows n block [] b → length b + left ≤ n → Completes left b
  completes zero b f h = record { part = []; joined = completed_none b ∙ sym (append-nil b); long = refl; follows = tt }
  completes (suc left) b f h = go (has_child n block b f (omega arith)) (λ v g k. completes left (b ++ (v ∷ [])) g k)
    where
      go : (v : ℕ) × (vs : List ℕ) × (children n block b ≡ v ∷ vs) → ((v : ℕ) → Follows n block [] (b ++ (v ∷ [])) → length (b ++ (v ∷ [])) + left ≤ n → Completes left (b ++ (v ∷ []))) → Completes (suc left) b
      go k below =
          let v = k.0 in
          let c : Child n block b v = child_of_mem n block b v (rw k.2 (mathlib.Core.List.Memᴰ.head refl)) in
          let r = below v (walk_more b v f c) (omega (arith, length_more b v)) in
          record {
            part = v ∷ r.part;
            joined = completed_more left b ∙ rw (first_child b v k.1 k.2) (r.joined ∙ append_snoc b v r.part);
            long = omega (arith, r.long);
            follows = (c, r.follows);
          }

  -- no walk of so many vertices from b comes before it
  least : (left : ℕ) (b : List ℕ) → Follows n block [] b → length b + left ≤ n → (d : List ℕ) → Follows n block b d → length d ≡ left → (b ++ d ≡ completed n block left b) ⊎ Before (completed n block left b) (b ++ d)
  least zero b f h [] g e = inl (append-nil b ∙ sym (completed_none b))
  least zero b f h (w ∷ d) g e = absurd (omega arith)
  least (suc left) b f h [] g e = absurd (omega arith)
  least (suc left) b f h (w ∷ d) g e = rw (completed_more left b) (go (has_child n block b f (omega arith)) (least left))
    where
      Least : List ℕ → List ℕ → Type 0
      Least c x = (x ≡ c) ⊎ Before c x

      go : (v : ℕ) × (vs : List ℕ) × (children n block b ≡ v ∷ vs) → ((p : List ℕ) → Follows n block [] p → length p + left ≤ n → (d : List ℕ) → Follows n block p d → length d ≡ left → Least (completed n block left p) (p ++ d)) → Least (completed n block left (with_first n block b)) (b ++ (w ∷ d))
      go k below =
          let v = k.0 in
          let c : Child n block b v = child_of_mem n block b v (rw k.2 (mathlib.Core.List.Memᴰ.head refl)) in
          let f' : Follows n block [] (b ++ (v ∷ [])) = walk_more b v f c in
          let h' : length (b ++ (v ∷ [])) + left ≤ n = omega (arith, length_more b v) in
          rw (first_child b v k.1 k.2)
          (⊎_elim (λ (q : w ≡ v). rw q (rw (append_snoc b v d) at (below (b ++ (v ∷ [])) f' h' d (rw q at g.1) (omega arith))))
          (λ (m : Memᴰ w k.1). let r = completes left (b ++ (v ∷ [])) f' h' in inr (rw (r.joined ∙ append_snoc b v r.part) (before_append b (v ∷ r.part) (w ∷ d) (inl ((rw k.2 at (children_ascend n block b)).0 w m)))))
          (mathlib.Core.List.Memᴰ.cases_cons (rw k.2 at (mem_of_child n block b w g.0))))

  -- ---- of beginnings

  -- a beginning shorter than n has a child
  pub child_exists : (b : List ℕ) → Beginning n block b → length b < n → (v : ℕ) × (vs : List ℕ) × (children n block b ≡ v ∷ vs)
  child_exists b h = has_child n block b (beginning_follows n block b h)

  -- and so has the empty list
  pub first_exists : 1 ≤ n → (v : ℕ) × (vs : List ℕ) × (children n block [] ≡ v ∷ vs)
  first_exists h = has_child n block [] tt h

  -- p is an arrangement that extends b
  pub record Completion (b p : List ℕ) : Type 0 where
    pub beginning : Beginning n block p
    pub whole : length p ≡ n
    pub part : List ℕ
    pub extends : p ≡ b ++ part

  -- b completed is one
  pub completed_whole : (b : List ℕ) → Beginning n block b → Completion b (completed n block (n - length b) b)
  completed_whole b h =
      let f = beginning_follows n block b h in
      let r = completes (n - length b) b f (omega (arith, h.fits)) in
      let all : length (b ++ r.part) ≡ n = omega (arith, length-append b r.part, r.long, h.fits) in
      rw r.joined
      (record {
        beginning = beginning_of n block (b ++ r.part) (omega (arith, all, h.begun, h.fits)) (omega (arith, all)) (follows_append n block [] b r.part f r.follows);
        whole = all;
        part = r.part;
        extends = refl;
      })

  -- and the first of those that do
  pub completed_least : (b c : List ℕ) → Beginning n block b → Beginning n block (b ++ c) → length (b ++ c) ≡ n → (b ++ c ≡ completed n block (n - length b) b) ⊎ Before (completed n block (n - length b) b) (b ++ c)
  completed_least b c h k e =
      least (n - length b) b (beginning_follows n block b h) (omega (arith, h.fits)) c (follows_rest n block [] b c (beginning_follows n block (b ++ c) k)) (omega (arith, length-append b c, e))
