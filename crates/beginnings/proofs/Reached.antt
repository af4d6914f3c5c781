-- The list of reached beginnings holds exactly those that the rules call reached, in dictionary order, and no other list does.
use Prim.Native.Nat.{ℕ, zero, suc, ◌-◌, ◌≤◌, ◌<◌}
use native.Mathlib.Omega.{arith}
use mathlib.Core.Path.{◌≡◌}
use mathlib.Core.Logic.Iff
use mathlib.Core.Logic.{◌↔◌}
use mathlib.Core.List.{List, [], ◌∷◌, ◌++◌, append-nil, Memᴰ}
use lib.ListN.{length, take}
use lib.Seq.{append_snoc}
use Rattle.beginnings.specs.Beginning.{children}
use Rattle.beginnings.specs.Search.{Judgement, «open», IsReached, reached}
use Rattle.beginnings.specs.Order.{Rising}
use Rattle.beginnings.proofs.Children.{Child, child_of_mem, mem_of_child, children_ascend}
use Rattle.beginnings.proofs.Follows.{Follows, beginning_follows, beginning_of}
use Rattle.beginnings.proofs.Subtree.{Reaches, from_subtrees, into_subtrees, from_subtree, into_subtree, subtrees_rise, subtree_rises}
use Rattle.beginnings.proofs.Order.{rising_unique}

module _ (n : ℕ) (block : ℕ → ℕ) (judged : List ℕ → Judgement) where
  -- what reaches is a walk
  pub reaches_follows : (p c : List ℕ) → Reaches n block judged p c → Follows n block p c
  reaches_follows p [] r = tt
  reaches_follows p (v ∷ c) r = (r.1, reaches_follows (p ++ (v ∷ [])) c r.2)

  -- and open all along
  pub reaches_open : (p c : List ℕ) → Reaches n block judged p c → (m : ℕ) → m < length c → judged (p ++ take m c) ≡ «open»
  reaches_open p [] r m h = absurd (omega arith)
  reaches_open p (v ∷ c) r zero h = rw append-nil r.0
  reaches_open p (v ∷ c) r (suc m) h = rw (append_snoc p v (take m c)) at (reaches_open (p ++ (v ∷ [])) c r.2 m (omega arith))

  -- a walk that is open all along reaches
  pub open_reaches : (p c : List ℕ) → Follows n block p c → ((m : ℕ) → m < length c → judged (p ++ take m c) ≡ «open») → Reaches n block judged p c
  open_reaches p [] f o = tt
  open_reaches p (v ∷ c) f o = (rw append-nil at (o 0 (omega arith)), f.0, open_reaches (p ++ (v ∷ [])) c f.1 (λ m h. rw (append_snoc p v (take m c)) (o (suc m) (omega arith))))

  -- a first vertex and what it reaches
  pub is_reached_lem : (v : ℕ) (c : List ℕ) → Child n block [] v → length c ≤ n - 1 → Reaches n block judged (v ∷ []) c → IsReached n block judged (v ∷ c)
  is_reached_lem v c k h r =
      record {
        beginning = beginning_of n block (v ∷ c) (omega arith) (omega arith) (k, reaches_follows (v ∷ []) c r);
        shorter_open = λ m l u. let q : m ≡ suc (m - 1) = omega arith in rw q (reaches_open (v ∷ []) c r (m - 1) (omega arith));
      }

  -- each of the list is reached
  pub reached_sound : (b : List ℕ) → Memᴰ b (reached n block judged) → IsReached n block judged b
  unfolding reached
  reached_sound b m =
      let s = from_subtrees n block judged (n - 1) [] (children n block []) b m in
      let t = from_subtree n block judged (n - 1) (s.0 ∷ []) b s.2 in
      rw t.joined (is_reached_lem s.0 t.part (child_of_mem n block [] s.0 s.1) t.fits t.reaches)

  -- each reached one is in the list
  pub reached_complete : (b : List ℕ) → IsReached n block judged b → Memᴰ b (reached n block judged)
  unfolding reached
  reached_complete [] h = absurd (omega (arith, h.beginning.begun))
  reached_complete (v ∷ c) h = into (beginning_follows n block (v ∷ c) h.beginning)
    where
      into : Follows n block [] (v ∷ c) → Memᴰ (v ∷ c) (reached n block judged)
      into f =
          into_subtrees n block judged (n - 1) [] (children n block []) (v ∷ c) v (mem_of_child n block [] v f.0)
          (into_subtree n block judged (n - 1) (v ∷ []) c (omega (arith, h.beginning.fits)) (open_reaches (v ∷ []) c f.1 (λ m l. h.shorter_open (suc m) (omega arith) (omega arith))))

  -- exactly the reached ones
  pub reached_exactly : (b : List ℕ) → Memᴰ b (reached n block judged) ↔ IsReached n block judged b
  reached_exactly b = (reached_sound b, reached_complete b)

  -- in dictionary order
  pub reached_rises : Rising (reached n block judged)
  unfolding reached
  reached_rises = subtrees_rise n block judged (n - 1) [] (children n block []) (children_ascend n block []) (λ v. subtree_rises n block judged (n - 1) (v ∷ []))

  -- and no other list is both
  pub reached_unique : (bs : List (List ℕ)) → Rising bs → ((b : List ℕ) → Memᴰ b bs ↔ IsReached n block judged b) → bs ≡ reached n block judged
  reached_unique bs rising exactly = rising_unique bs (reached n block judged) rising reached_rises (λ b. Iff.trans (exactly b) (Iff.symm (reached_exactly b)))
