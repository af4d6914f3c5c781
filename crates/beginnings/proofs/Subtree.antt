-- Subtrees unrolled, one equation for each case, and what their members are.
use Prim.Native.Nat.{ℕ, zero, suc, ◌≤◌}
use native.Mathlib.Omega.{arith}
use mathlib.Core.Path.{◌≡◌, refl, sym, ◌∙◌}
use mathlib.Core.Logic.{inl, ⊎_elim}
use mathlib.Core.List.{List, [], ◌∷◌, ◌++◌, append-nil, flat_map, Memᴰ}
use lib.ListN.{length}
use lib.Seq.{append_snoc}
use Rattle.laws.specs.Chosen.{Ascending}
use Rattle.beginnings.specs.Beginning.{children}
use Rattle.beginnings.specs.Search.{Judgement, won, lost, «open», where_open, subtree, subtrees}
use Rattle.beginnings.specs.Order.{Before, Rising}
use Rattle.beginnings.proofs.Children.{Child, child_of_mem, mem_of_child, children_ascend}
use Rattle.beginnings.proofs.Order.{before_append, before_extension, rising_append}

module _ (n : ℕ) (block : ℕ → ℕ) (judged : List ℕ → Judgement) where
  -- ---- one turn at a time

  -- a beginning with no place left is its whole subtree
  pub subtree_full : (b : List ℕ) → subtree n block judged 0 b ≡ b ∷ []
  unfolding subtree
  subtree_full b = refl

  -- and so is a won one
  pub subtree_won : (left : ℕ) (b : List ℕ) → judged b ≡ won → subtree n block judged left b ≡ b ∷ []
  unfolding subtree where_open
  subtree_won zero b e = refl
  subtree_won (suc left) b e = rw e

  -- and a lost one
  pub subtree_lost : (left : ℕ) (b : List ℕ) → judged b ≡ lost → subtree n block judged left b ≡ b ∷ []
  unfolding subtree where_open
  subtree_lost zero b e = refl
  subtree_lost (suc left) b e = rw e

  -- an open one is followed by the subtrees of its children
  pub subtree_open : (left : ℕ) (b : List ℕ) → judged b ≡ «open» → subtree n block judged (suc left) b ≡ b ∷ subtrees n block judged left b (children n block b)
  unfolding subtree subtrees where_open
  subtree_open left b e = rw e

  -- a subtree begins with its root
  pub subtree_root : (left : ℕ) (b : List ℕ) → (bs : List (List ℕ)) × (subtree n block judged left b ≡ b ∷ bs)
  unfolding subtree subtrees
  subtree_root zero b = ([], refl)
  subtree_root (suc left) b = (where_open (judged b) (subtrees n block judged left b (children n block b)), refl)

  -- no vertices, no subtrees
  pub subtrees_none : (left : ℕ) (b : List ℕ) → subtrees n block judged left b [] ≡ []
  unfolding subtrees flat_map
  subtrees_none left b = refl

  -- the first vertex's subtree comes first
  pub subtrees_more : (left : ℕ) (b : List ℕ) (v : ℕ) (vs : List ℕ) → subtrees n block judged left b (v ∷ vs) ≡ subtree n block judged left (b ++ (v ∷ [])) ++ subtrees n block judged left b vs
  unfolding subtrees flat_map
  subtrees_more left b v vs = refl

  -- ---- the members

  -- from p, which is open, to a child of it, and so on along c
  abbrev pub Reaches : List ℕ → List ℕ → Type 0
  Reaches p [] = Unit {0}
  Reaches p (v ∷ c) = (judged p ≡ «open») × Child n block p v × Reaches (p ++ (v ∷ [])) c

  -- a member of the subtrees is a member of one of them
  pub from_subtrees : (left : ℕ) (p vs x : List ℕ) → Memᴰ x (subtrees n block judged left p vs) → (v : ℕ) × Memᴰ v vs × Memᴰ x (subtree n block judged left (p ++ (v ∷ [])))
  from_subtrees left p [] x m = absurd (mathlib.Core.List.Memᴰ.not-nil (rw subtrees_none at m))
  from_subtrees left p (v ∷ vs) x m =
      ⊎_elim (λ (l : Memᴰ x (subtree n block judged left (p ++ (v ∷ [])))). (v, mathlib.Core.List.Memᴰ.head refl, l))
      (λ (r : Memᴰ x (subtrees n block judged left p vs)). let s = from_subtrees left p vs x r in (s.0, mathlib.Core.List.Memᴰ.tail s.1, s.2))
      (mathlib.Core.List.Memᴰ.append_cases (subtree n block judged left (p ++ (v ∷ []))) (rw subtrees_more at m))

  -- a member of one of them is a member of them
  pub into_subtrees : (left : ℕ) (p vs x : List ℕ) (v : ℕ) → Memᴰ v vs → Memᴰ x (subtree n block judged left (p ++ (v ∷ []))) → Memᴰ x (subtrees n block judged left p vs)
  into_subtrees left p [] x v k m = absurd (mathlib.Core.List.Memᴰ.not-nil k)
  into_subtrees left p (w ∷ vs) x v k m =
      rw subtrees_more
      (⊎_elim (λ (e : v ≡ w). mathlib.Core.List.Memᴰ.append_left (subtrees n block judged left p vs) (rw e at m))
      (λ (l : Memᴰ v vs). mathlib.Core.List.Memᴰ.append_right (subtree n block judged left (p ++ (w ∷ []))) (into_subtrees left p vs x v l m))
      (mathlib.Core.List.Memᴰ.cases_cons k))

  -- x is p with a part c that p reaches in at most left steps
  pub record Below (left : ℕ) (p x : List ℕ) : Type 0 where
    pub part : List ℕ
    pub joined : x ≡ p ++ part
    pub fits : length part ≤ left
    pub reaches : Reaches p part

  here : (left : ℕ) (p x : List ℕ) → x ≡ p → Below left p x
  here left p x e = record { part = []; joined = e ∙ sym (append-nil p); fits = omega arith; reaches = tt }

  -- each member of a subtree is reached from its root
  pub from_subtree : (left : ℕ) (p x : List ℕ) → Memᴰ x (subtree n block judged left p) → Below left p x
  from_subtree zero p x m = here zero p x (mathlib.Core.List.Memᴰ.eq_of_singleton (rw subtree_full at m))
  from_subtree (suc left) p x m = go (judged p) refl (λ v k. from_subtree left (p ++ (v ∷ [])) x k)
    where
      deeper : judged p ≡ «open» → (v : ℕ) → Memᴰ v (children n block p) → Below left (p ++ (v ∷ [])) x → Below (suc left) p x
      deeper o v k r = record { part = v ∷ r.part; joined = r.joined ∙ append_snoc p v r.part; fits = omega (arith, r.fits); reaches = (o, child_of_mem n block p v k, r.reaches) }

      go : (j : Judgement) → judged p ≡ j → ((v : ℕ) → Memᴰ x (subtree n block judged left (p ++ (v ∷ []))) → Below left (p ++ (v ∷ [])) x) → Below (suc left) p x
      go won e below = here (suc left) p x (mathlib.Core.List.Memᴰ.eq_of_singleton (rw (subtree_won (suc left) p e) at m))
      go lost e below = here (suc left) p x (mathlib.Core.List.Memᴰ.eq_of_singleton (rw (subtree_lost (suc left) p e) at m))
      go «open» e below =
          ⊎_elim (λ (q : x ≡ p). here (suc left) p x q)
          (λ (k : Memᴰ x (subtrees n block judged left p (children n block p))). let s = from_subtrees left p (children n block p) x k in deeper e s.0 s.1 (below s.0 s.2))
          (mathlib.Core.List.Memᴰ.cases_cons (rw (subtree_open left p e) at m))

  -- whatever is reached from the root within the places left is a member
  pub into_subtree : (left : ℕ) (p c : List ℕ) → length c ≤ left → Reaches p c → Memᴰ (p ++ c) (subtree n block judged left p)
  into_subtree left p [] h r = mathlib.Core.List.Memᴰ.cast (append-nil p) (rw (subtree_root left p).1 (mathlib.Core.List.Memᴰ.head refl))
  into_subtree zero p (v ∷ c) h r = absurd (omega arith)
  into_subtree (suc left) p (v ∷ c) h r =
      rw (subtree_open left p r.0)
      (mathlib.Core.List.Memᴰ.tail (into_subtrees left p (children n block p) (p ++ (v ∷ c)) v (mem_of_child n block p v r.1) (mathlib.Core.List.Memᴰ.cast (sym (append_snoc p v c)) (into_subtree left (p ++ (v ∷ [])) c (omega arith) r.2))))

  -- ---- the order

  -- the subtrees of ascending vertices are rising, where each of them is
  pub subtrees_rise : (left : ℕ) (p vs : List ℕ) → Ascending vs → ((v : ℕ) → Rising (subtree n block judged left (p ++ (v ∷ [])))) → Rising (subtrees n block judged left p vs)
  subtrees_rise left p [] a each = rw subtrees_none tt
  subtrees_rise left p (v ∷ vs) a each =
      rw subtrees_more
      (rising_append (subtree n block judged left (p ++ (v ∷ []))) (subtrees n block judged left p vs) (each v) (subtrees_rise left p vs a.1 each) across)
    where
      across : (x y : List ℕ) → Memᴰ x (subtree n block judged left (p ++ (v ∷ []))) → Memᴰ y (subtrees n block judged left p vs) → Before x y
      across x y k l =
          let r = from_subtree left (p ++ (v ∷ [])) x k in
          let s = from_subtrees left p vs y l in
          let t = from_subtree left (p ++ (s.0 ∷ [])) y s.2 in
          rw (r.joined ∙ append_snoc p v r.part, t.joined ∙ append_snoc p s.0 t.part) (before_append p (v ∷ r.part) (s.0 ∷ t.part) (inl (a.0 s.0 s.1)))

  -- a subtree is rising
  pub subtree_rises : (left : ℕ) (p : List ℕ) → Rising (subtree n block judged left p)
  subtree_rises zero p = rw subtree_full (λ c m. absurd (mathlib.Core.List.Memᴰ.not-nil m), tt)
  subtree_rises (suc left) p = go (judged p) refl (λ v. subtree_rises left (p ++ (v ∷ [])))
    where
      go : (j : Judgement) → judged p ≡ j → ((v : ℕ) → Rising (subtree n block judged left (p ++ (v ∷ [])))) → Rising (subtree n block judged (suc left) p)
      go won e each = rw (subtree_won (suc left) p e) (λ c m. absurd (mathlib.Core.List.Memᴰ.not-nil m), tt)
      go lost e each = rw (subtree_lost (suc left) p e) (λ c m. absurd (mathlib.Core.List.Memᴰ.not-nil m), tt)
      go «open» e each =
          rw (subtree_open left p e) (
            λ x m.
                let s = from_subtrees left p (children n block p) x m in
                let t = from_subtree left (p ++ (s.0 ∷ [])) x s.2 in
                rw (t.joined ∙ append_snoc p s.0 t.part) (before_extension p s.0 t.part),
            subtrees_rise left p (children n block p) (children_ascend n block p) each,
          )
