-- There is always a child: the vertices of a block that a walk has used sit at places of that block, and the places before the next one are fewer than the block has vertices.
use Prim.Native.Nat.{ℕ, zero, suc, ◌+◌, ◌≤◌, ◌<◌}
use native.Mathlib.Omega.{arith}
use native.Mathlib.Nat.{le-suc_iff}
use mathlib.Core.Path.{◌≡◌, refl, sym, ◌∙◌}
use mathlib.Core.Logic.{◌⊎◌, inl, inr, ⊎_elim}
use mathlib.Core.Bool.{Bool, true, false}
use mathlib.Core.List.Memᴰ
use mathlib.Core.List.{List, [], ◌∷◌, ◌++◌, Memᴰ}
use lib.ListN.{length, get_or, take}
use lib.Seq.{take-suc, take-length}
use lib.Dec.{eqb}
use borrow.Author.Tests.{eqb-true, eqb-false, eq-eqb}
use Rattle.laws.specs.Test.{pick}
use Rattle.laws.specs.UpTo.{sum_up_to}
use Rattle.beginnings.specs.Beginning.{children}
use Rattle.beginnings.proofs.Children.{child_or_used}
use Rattle.beginnings.proofs.Follows.{Follows, follows_in_block}

-- 1 where v lies in the block c
mark : (ℕ → ℕ) → ℕ → ℕ → ℕ
mark block c v = pick (eqb (block v) c) 1 0

-- the sum of f over a list
total : (ℕ → ℕ) → List ℕ → ℕ
total f [] = 0
total f (v ∷ b) = f v + total f b

mark_in_lem : (block : ℕ → ℕ) (c v : ℕ) → block v ≡ c → mark block c v ≡ 1
unfolding mark pick
mark_in_lem block c v e = rw (eq-eqb (block v) c e)

mark_same : (block : ℕ → ℕ) (c v w : ℕ) → block v ≡ block w → mark block c v ≡ mark block c w
unfolding mark
mark_same block c v w e = rw e

-- a mark is 1, in the block, or 0
mark_or : (block : ℕ → ℕ) (c v : ℕ) → ((block v ≡ c) × (mark block c v ≡ 1)) ⊎ (mark block c v ≡ 0)
unfolding mark pick
mark_or block c v = go (eqb (block v) c) refl
  where
    go : (t : Bool) → eqb (block v) c ≡ t → ((block v ≡ c) × ◌≡◌ {A = ℕ} (pick t 1 0) 1) ⊎ ◌≡◌ {A = ℕ} (pick t 1 0) 0
    go true q = inl (eqb-true (block v) c q, refl)
    go false q = inr refl

total_append : (f : ℕ → ℕ) (b c : List ℕ) → total f (b ++ c) ≡ total f b + total f c
unfolding total
total_append f [] c = omega arith
total_append f (v ∷ b) c = omega (arith, total_append f b c)

-- ---- the list without one of its members

-- b without x at its first place
without : ℕ → List ℕ → List ℕ
without x [] = []
without x (v ∷ b) =
    let rest = v ∷ without x b in
    pick (eqb v x) b rest

total_without : (f : ℕ → ℕ) (x : ℕ) (b : List ℕ) → Memᴰ x b → total f b ≡ f x + total f (without x b)
unfolding total without pick
total_without f x [] m = absurd (Memᴰ.not-nil m)
total_without f x (v ∷ b) m = go (eqb v x) refl (Memᴰ.cases_cons m) (λ k. total_without f x b k)
  where
    go : (t : Bool) → eqb v x ≡ t → (x ≡ v) ⊎ Memᴰ x b → (Memᴰ x b → total f b ≡ f x + total f (without x b)) → f v + total f b ≡ f x + total f (pick t b (v ∷ without x b))
    go true q k below = let e : v ≡ x = eqb-true v x q in rw e refl
    go false q (inl k) below = absurd (eqb-false v x q (sym k))
    go false q (inr k) below = omega (arith, below k)

mem_without : (x y : ℕ) (b : List ℕ) → (y ≡ x → ⊥) → Memᴰ y b → Memᴰ y (without x b)
unfolding without pick
mem_without x y [] ne m = m
mem_without x y (v ∷ b) ne m = go (eqb v x) refl (Memᴰ.cases_cons m) (λ k. mem_without x y b ne k)
  where
    go : (t : Bool) → eqb v x ≡ t → (y ≡ v) ⊎ Memᴰ y b → (Memᴰ y b → Memᴰ y (without x b)) → Memᴰ y (pick t b (v ∷ without x b))
    go true q (inl k) below = absurd (ne (k ∙ eqb-true v x q))
    go true q (inr k) below = k
    go false q (inl k) below = Memᴰ.head k
    go false q (inr k) below = Memᴰ.tail (below k)

-- ---- the count

module _ (block : ℕ → ℕ) (c : ℕ) where
  -- a list that has each vertex of the block up to m has at least as many marks as there are
  all_used : (m : ℕ) (b : List ℕ) → ((v : ℕ) → 1 ≤ v → v ≤ m → block v ≡ c → Memᴰ v b) → sum_up_to (mark block c) m ≤ total (mark block c) b
  unfolding sum_up_to
  all_used zero b used = omega arith
  all_used (suc m) b used =
      ⊎_elim (λ (h : (block (suc m) ≡ c) × (mark block c (suc m) ≡ 1)). omega (arith, h.1, total_without (mark block c) (suc m) b (used (suc m) (omega arith) (omega arith) h.0), all_used m (without (suc m) b) (λ v l u e. mem_without (suc m) v b (λ q. omega arith) (used v l (omega arith) e))))
      (λ (h : mark block c (suc m) ≡ 0). omega (arith, all_used m b (λ v l u e. used v l (omega arith) e)))
      (mark_or block c (suc m))

  -- a walk has as many marks as the places that it fills
  places_used : (b : List ℕ) → ((i : ℕ) → i < length b → block (get_or b i 0) ≡ block (suc i)) → (j : ℕ) → j ≤ length b → total (mark block c) (take j b) ≡ sum_up_to (mark block c) j
  unfolding sum_up_to total
  places_used b inside zero h = refl
  places_used b inside (suc j) h =
      let same : mark block c (get_or b j 0) ≡ mark block c (suc j) = mark_same block c (get_or b j 0) (suc j) (inside j h) in
      rw (take-suc b j 0 h) (omega (arith, total_append (mark block c) (take j b) (get_or b j 0 ∷ []), places_used b inside j (omega arith), same))

  -- the block has more vertices up to n than up to k, where the next one lies in it
  more_marks : (k n : ℕ) → k < n → block (suc k) ≡ c → sum_up_to (mark block c) k < sum_up_to (mark block c) n
  unfolding sum_up_to
  more_marks k zero h e = absurd (omega arith)
  more_marks k (suc n) h e =
      ⊎_elim (λ (s : suc k ≤ n). omega (arith, more_marks k n s e))
      (λ (q : suc k ≡ suc n). let s : k ≡ n = omega arith in let one : mark block c (suc n) ≡ 1 = mark_in_lem block c (suc n) (rw s at e) in rw s (omega (arith, one)))
      (le-suc_iff.0 h)

module _ (n : ℕ) (block : ℕ → ℕ) where
  -- a walk shorter than n has a child
  pub has_child : (b : List ℕ) → Follows n block [] b → length b < n → (v : ℕ) × (vs : List ℕ) × (children n block b ≡ v ∷ vs)
  has_child b f h = go (children n block b) refl
    where
      go : (vs : List ℕ) → children n block b ≡ vs → (w : ℕ) × (ws : List ℕ) × (vs ≡ w ∷ ws)
      go [] e =
          let used : (v : ℕ) → Memᴰ v (children n block b) ⊎ Memᴰ v b → Memᴰ v b = λ v. ⊎_elim (λ (m : Memᴰ v (children n block b)). absurd (Memᴰ.not-nil (rw e at m))) (λ (m : Memᴰ v b). m) in
          let c = block (suc (length b)) in
          let filled : total (mark block c) (take (length b) b) ≡ sum_up_to (mark block c) (length b) = places_used block c b (follows_in_block n block b f) (length b) (omega arith) in
          let all : total (mark block c) b ≡ sum_up_to (mark block c) (length b) = rw take-length at filled in
          absurd (omega (arith, all, more_marks block c (length b) n h refl, all_used block c n b (λ v l u q. used v (child_or_used n block b v l u q))))
      go (w ∷ ws) e = (w, ws, refl)
