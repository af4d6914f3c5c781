-- A search as a loop: what remains to be visited from a path, and one equation for each way round.
use Prim.Native.Nat.{ℕ, suc, ◌-◌, ◌≤◌, ◌<◌}
use native.Mathlib.Omega.{arith}
use mathlib.Core.Path.{◌≡◌, refl, sym, ◌∙◌, ap}
use mathlib.Core.Logic.{◌≢◌}
use mathlib.Core.List.{List, [], ◌∷◌, ◌++◌, append-nil, append_assoc}
use lib.ListN.{length, take}
use lib.Seq.{length-take-le, take-take, take-append_seam}
use Rattle.beginnings.specs.Beginning.{children}
use Rattle.beginnings.specs.Search.{Judgement, won, lost, «open», subtree, subtrees, reached, cut, none, first, try_all, searched}
use Rattle.beginnings.specs.Remaining.{shorter, remaining}
use Rattle.beginnings.proofs.Follows.{length_more}
use Rattle.beginnings.proofs.Subtree.{subtree_full, subtree_lost, subtree_open, subtree_root, subtrees_none, subtrees_more}
use Rattle.beginnings.proofs.Count.{try_none, try_cut, try_won, try_past}

-- a path less the vertex that was put on it
pub shorter_more : (b : List ℕ) (v : ℕ) → shorter (b ++ (v ∷ [])) ≡ b
shorter_more b v =
    let e : length (b ++ (v ∷ [])) - 1 ≡ length b = omega (arith, length_more b v) in
    rw e (take-append_seam b (v ∷ []))

-- the first d + 1 of a list, less the last
pub shorter_take : (d : ℕ) (p : List ℕ) → d < length p → shorter (take (suc d) p) ≡ take d p
shorter_take d p h =
    let e : length (take (suc d) p) - 1 ≡ d = omega (arith, length-take-le (suc d) p h) in
    ap (λ (m : ℕ). take m (take (suc d) p)) e ∙ take-take d (suc d) p (omega arith)

module _ (n : ℕ) (block : ℕ → ℕ) (judged : List ℕ → Judgement) where
  -- ---- what remains

  -- before anything is tried: the reached ones
  pub remaining_start : remaining n block judged [] (children n block [] ∷ []) ≡ reached n block judged
  unfolding remaining reached
  remaining_start =
      let e : n - 0 - 1 ≡ n - 1 = omega arith in
      append-nil (subtrees n block judged (n - 0 - 1) [] (children n block [])) ∙ ap (λ (m : ℕ). subtrees n block judged m [] (children n block [])) e

  -- with no depth left: nothing
  pub remaining_done : (b : List ℕ) → remaining n block judged b [] ≡ []
  unfolding remaining
  remaining_done b = refl

  -- what remains at the deepest, then one up
  remaining_at : (b vs : List ℕ) (untried : List (List ℕ)) → remaining n block judged b (vs ∷ untried) ≡ subtrees n block judged (n - length b - 1) b vs ++ remaining n block judged (shorter b) untried
  unfolding remaining
  remaining_at b vs untried = refl

  -- with nothing untried at the deepest: what remains one up
  pub remaining_climb : (b : List ℕ) (untried : List (List ℕ)) → remaining n block judged b ([] ∷ untried) ≡ remaining n block judged (shorter b) untried
  remaining_climb b untried = remaining_at b [] untried ∙ rw (subtrees_none n block judged) refl

  module _ (b : List ℕ) (v : ℕ) (vs : List ℕ) (untried : List (List ℕ)) where
    -- the first untried vertex's subtree comes first
    remaining_more : remaining n block judged b ((v ∷ vs) ∷ untried) ≡ subtree n block judged (n - length b - 1) (b ++ (v ∷ [])) ++ remaining n block judged b (vs ∷ untried)
    unfolding remaining
    remaining_more = rw (subtrees_more n block judged) (append_assoc (subtree n block judged (n - length b - 1) (b ++ (v ∷ []))) (subtrees n block judged (n - length b - 1) b vs) (remaining n block judged (shorter b) untried))

    -- and begins with the path to it
    pub remaining_head : (bs : List (List ℕ)) × (remaining n block judged b ((v ∷ vs) ∷ untried) ≡ (b ++ (v ∷ [])) ∷ bs)
    remaining_head =
        let r = subtree_root n block judged (n - length b - 1) (b ++ (v ∷ [])) in
        (r.0 ++ remaining n block judged b (vs ∷ untried), remaining_more ∙ rw r.1 refl)

    -- a leaf is tried, and the search stays at its depth
    remaining_leaf : subtree n block judged (n - length b - 1) (b ++ (v ∷ [])) ≡ (b ++ (v ∷ [])) ∷ [] → remaining n block judged b ((v ∷ vs) ∷ untried) ≡ (b ++ (v ∷ [])) ∷ remaining n block judged b (vs ∷ untried)
    remaining_leaf e = remaining_more ∙ rw e refl

    -- a lost one is a leaf
    pub remaining_lost : judged (b ++ (v ∷ [])) ≡ lost → remaining n block judged b ((v ∷ vs) ∷ untried) ≡ (b ++ (v ∷ [])) ∷ remaining n block judged b (vs ∷ untried)
    remaining_lost e = remaining_leaf (subtree_lost n block judged (n - length b - 1) (b ++ (v ∷ [])) e)

    -- and so is one that fills every place
    pub remaining_full : n ≤ suc (length b) → remaining n block judged b ((v ∷ vs) ∷ untried) ≡ (b ++ (v ∷ [])) ∷ remaining n block judged b (vs ∷ untried)
    remaining_full h =
        let e : n - length b - 1 ≡ 0 = omega arith in
        remaining_leaf (rw e (subtree_full n block judged (b ++ (v ∷ []))))

    -- an open one with places left is tried, and the search goes to its children
    pub remaining_deeper : suc (length b) < n → judged (b ++ (v ∷ [])) ≡ «open» → remaining n block judged b ((v ∷ vs) ∷ untried) ≡ (b ++ (v ∷ [])) ∷ remaining n block judged (b ++ (v ∷ [])) (children n block (b ++ (v ∷ [])) ∷ vs ∷ untried)
    remaining_deeper h o = remaining_more ∙ rw (left, subtree_open n block judged (n - length (b ++ (v ∷ [])) - 1) (b ++ (v ∷ [])) o) (ap (λ (l : List (List ℕ)). (b ++ (v ∷ [])) ∷ l) (sym below))
      where
        left : n - length b - 1 ≡ suc (n - length (b ++ (v ∷ [])) - 1)
        left = omega (arith, length_more b v)

        below : remaining n block judged (b ++ (v ∷ [])) (children n block (b ++ (v ∷ [])) ∷ vs ∷ untried) ≡ subtrees n block judged (n - length (b ++ (v ∷ [])) - 1) (b ++ (v ∷ [])) (children n block (b ++ (v ∷ []))) ++ remaining n block judged b (vs ∷ untried)
        below = remaining_at (b ++ (v ∷ [])) (children n block (b ++ (v ∷ []))) (vs ∷ untried) ∙ ap (λ (p : List ℕ). subtrees n block judged (n - length (b ++ (v ∷ [])) - 1) (b ++ (v ∷ [])) (children n block (b ++ (v ∷ []))) ++ remaining n block judged p (vs ∷ untried)) (shorter_more b v)

  -- ---- the ways round, from the counter

  -- the search begins with the vertices that may stand at place 1
  pub loop_begins : (budget : ℕ) → try_all judged (remaining n block judged [] (children n block [] ∷ [])) 0 budget ≡ searched n block judged budget
  unfolding searched
  loop_begins budget = rw remaining_start refl

  -- with no depth left the search is over
  pub loop_over : (b : List ℕ) (steps budget : ℕ) → try_all judged (remaining n block judged b []) steps budget ≡ none steps
  loop_over b steps budget = rw (remaining_done b) (try_none judged steps budget)

  -- with nothing untried at the deepest it climbs
  pub loop_climb : (b : List ℕ) (untried : List (List ℕ)) (steps budget : ℕ) → try_all judged (remaining n block judged b ([] ∷ untried)) steps budget ≡ try_all judged (remaining n block judged (shorter b) untried) steps budget
  loop_climb b untried steps budget = rw (remaining_climb b untried) refl

  module _ (b : List ℕ) (v : ℕ) (vs : List ℕ) (untried : List (List ℕ)) (steps budget : ℕ) where
    -- with the budget used up and a vertex untried it is cut
    pub loop_cut : budget ≤ steps → try_all judged (remaining n block judged b ((v ∷ vs) ∷ untried)) steps budget ≡ cut
    loop_cut h = let r = remaining_head b v vs untried in rw r.1 (try_cut judged (b ++ (v ∷ [])) r.0 steps budget h)

    -- a won one is found
    pub loop_won : steps < budget → judged (b ++ (v ∷ [])) ≡ won → try_all judged (remaining n block judged b ((v ∷ vs) ∷ untried)) steps budget ≡ first (b ++ (v ∷ [])) (suc steps)
    loop_won h e = let r = remaining_head b v vs untried in rw r.1 (try_won judged (b ++ (v ∷ [])) r.0 steps budget h e)

    -- past a lost one it stays
    pub loop_lost : steps < budget → judged (b ++ (v ∷ [])) ≡ lost → try_all judged (remaining n block judged b ((v ∷ vs) ∷ untried)) steps budget ≡ try_all judged (remaining n block judged b (vs ∷ untried)) (suc steps) budget
    loop_lost h e = rw (remaining_lost b v vs untried e) (try_past judged (b ++ (v ∷ [])) (remaining n block judged b (vs ∷ untried)) steps budget h (λ q. let z : ◌≡◌ {A = ℕ} 0 1 = cc in omega arith))

    -- and past one that fills every place and is not won
    pub loop_full : steps < budget → n ≤ suc (length b) → judged (b ++ (v ∷ [])) ≢ won → try_all judged (remaining n block judged b ((v ∷ vs) ∷ untried)) steps budget ≡ try_all judged (remaining n block judged b (vs ∷ untried)) (suc steps) budget
    loop_full h k e = rw (remaining_full b v vs untried k) (try_past judged (b ++ (v ∷ [])) (remaining n block judged b (vs ∷ untried)) steps budget h e)

    -- from an open one with places left it goes deeper
    pub loop_deeper : steps < budget → suc (length b) < n → judged (b ++ (v ∷ [])) ≡ «open» → try_all judged (remaining n block judged b ((v ∷ vs) ∷ untried)) steps budget ≡ try_all judged (remaining n block judged (b ++ (v ∷ [])) (children n block (b ++ (v ∷ [])) ∷ vs ∷ untried)) (suc steps) budget
    loop_deeper h k e = rw (remaining_deeper b v vs untried k e) (try_past judged (b ++ (v ∷ [])) (remaining n block judged (b ++ (v ∷ [])) (children n block (b ++ (v ∷ [])) ∷ vs ∷ untried)) steps budget h (λ q. let z : ◌≡◌ {A = ℕ} 0 1 = cc in omega arith))
