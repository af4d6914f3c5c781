-- A walk ends as it does where every unknown entry is what it is driven to: so it is won exactly where the copy of that one full drawing is earlier.
use Prim.Native.Nat.{ℕ, ◌≤◌}
use native.Mathlib.Omega.{arith}
use native.Mathlib.Decide.{dec_le}
use mathlib.Core.Path.{◌≡◌, refl, sym, ◌∙◌, ap, subst}
use mathlib.Core.Logic.{◌⊎◌, inl, inr, ◌≢◌, ◌↔◌}
use mathlib.Core.Bool.{Bool, true, false, not}
use mathlib.Core.List.Memᴰ
use mathlib.Core.List.{List, [], ◌∷◌, ◌++◌, append_assoc, Memᴰ}
use lib.Dec.{eqb, ltb}
use borrow.Author.Tests.{eqb-true, eqb-false, ne_eqb, lt-ltb, le-ltb}
use Rattle.laws.specs.Test.{both, either, pick}
use Rattle.laws.specs.TestLaws.{fails, holds_or_fails, pick_true, pick_false}
use Rattle.laws.specs.Each.{Each, each_none, each_cons, each_first, each_rest}
use Rattle.laws.specs.ListLaws.{NoRepeats, mem_split}
use Rattle.walk.specs.Walk.{Outcome, won, skips, wins, goes_on, loses, ending, walk}
use Rattle.walk.specs.Free.{free_move, edge_by, gap_by, free}
use Rattle.walk.specs.Earlier.{Earlier, copy}
use Rattle.walk.specs.Meaning.{Won, Beaten}
use Rattle.walk.proofs.Free.{not_before, free_walk}
use Rattle.walk.proofs.Meaning.{lost_not_won, open_not_won, won_means}
use Rattle.walk.proofs.Put.{apart}
use Rattle.walk.proofs.Order.{earlier_alike, earlier_irreflexive, earlier_transitive}
use Rattle.needed.specs.Settled.{Turned, driven_to, settled}

-- ---- entries

module _ {P : Type 0} (before : P → P → Bool) (src : P → P) (v : P → ℕ) (k : P) where
  pub settled_known : v k ≤ 1 → settled before src v k ≡ v k
  unfolding settled
  settled_known h = pick_false (ltb 1 (v k)) (driven_to before src k) (v k) (le-ltb 1 (v k) h)

  pub settled_unknown : 2 ≤ v k → settled before src v k ≡ driven_to before src k
  unfolding settled
  settled_unknown h = pick_true (ltb 1 (v k)) (driven_to before src k) (v k) (lt-ltb 1 (v k) h)

-- by which of a pair and its source comes first
pub driven_late : {P : Type 0} (before : P → P → Bool) (src : P → P) (k : P) → before (src k) k ≡ true → driven_to before src k ≡ 1
unfolding driven_to
driven_late before src k e = pick_true (before (src k) k) 1 0 e

pub driven_early : {P : Type 0} (before : P → P → Bool) (src : P → P) (k : P) → before (src k) k ≡ false → driven_to before src k ≡ 0
unfolding driven_to
driven_early before src k e = pick_false (before (src k) k) 1 0 e

pub driven_full : {P : Type 0} (before : P → P → Bool) (src : P → P) (k : P) → driven_to before src k ≤ 1
driven_full before src k = at (holds_or_fails (before (src k) k))
  where
    at : (before (src k) k ≡ true) ⊎ (before (src k) k ≡ false) → driven_to before src k ≤ 1
    at (inl e) = omega (arith, driven_late before src k e)
    at (inr e) = omega (arith, driven_early before src k e)

pub settled_full : {P : Type 0} (before : P → P → Bool) (src : P → P) (v : P → ℕ) (k : P) → settled before src v k ≤ 1
settled_full before src v k = at (dec_le (v k) 1)
  where
    at : Dec (v k ≤ 1) → settled before src v k ≤ 1
    at (yes h) = omega (arith, settled_known before src v k h)
    at (no h) = omega (arith, settled_unknown before src v k (omega arith), driven_full before src k)

-- what a test for the value y says, where an unknown entry counts as y by another test
counted : (x y d : ℕ) (t : Bool) → y ≤ 1 → (x ≤ 1 → d ≡ x) → (2 ≤ x → eqb d y ≡ t) → either (eqb x y) (both (ltb 1 x) t) ≡ eqb d y
unfolding both either
counted x y d t h k u = at (dec_le x 1)
  where
    same_either : (b : Bool) → either b false ≡ b
    same_either true = refl
    same_either false = refl

    at : Dec (x ≤ 1) → either (eqb x y) (both (ltb 1 x) t) ≡ eqb d y
    at (yes a) = rw (le-ltb 1 x a, k a) (same_either (eqb x y))
    at (no a) = rw (ne_eqb x y (λ q. a (omega arith)), lt-ltb 1 x (omega arith), u (omega arith)) refl

-- ---- walks

module _ {P : Type 0} {same before : P → P → Bool} {img src : P → P} {ks : List P} (t : Turned same before img src ks) where
  -- of two pairs exactly one comes before the other
  pub one_way : (j k : P) → Memᴰ j ks → Memᴰ k ks → j ≢ k → before j k ≡ not (before k j)
  one_way j k mj mk apart = at (mem_split k ks mk)
    where
      -- where j stands before k
      first : (xs us bs ys : List P) → ks ≡ xs ++ k ∷ ys → xs ≡ us ++ j ∷ bs → before k j ≡ false
      first xs us bs ys e d =
          let whole : ks ≡ us ++ j ∷ (bs ++ k ∷ ys) = e ∙ ap (λ (l : List P). l ++ k ∷ ys) d ∙ append_assoc us (j ∷ bs) (k ∷ ys) in
          fails (before k j) (λ b. not_before xs k ys (subst NoRepeats e t.once) (rw d (Memᴰ.append_left (j ∷ bs) ((t.order us j (bs ++ k ∷ ys) whole k mk).0 b))))

      at : (xs : List P) × (ys : List P) × (ks ≡ xs ++ k ∷ ys) → before j k ≡ not (before k j)
      at (xs, ys, e) = side (Memᴰ.append_cases xs (subst (λ (l : List P). Memᴰ j l) e mj))
        where
          side : Memᴰ j xs ⊎ Memᴰ j (k ∷ ys) → before j k ≡ not (before k j)
          side (inl m) =
              let s = mem_split j xs m in
              rw (first xs s.0 s.1 ys e s.2) ((t.order xs k ys e j mj).1 m)
          side (inr m) = after (Memᴰ.cases_cons m)
            where
              after : (j ≡ k) ⊎ Memᴰ j ys → before j k ≡ not (before k j)
              after (inl q) = absurd (apart q)
              after (inr n) =
                  let s = mem_split j ys n in
                  let whole : ks ≡ (xs ++ k ∷ s.0) ++ j ∷ s.1 = e ∙ ap (λ (l : List P). xs ++ k ∷ l) s.2 ∙ sym (append_assoc xs (k ∷ s.0) (j ∷ s.1)) in
                  let later : before k j ≡ true = (t.order (xs ++ k ∷ s.0) j s.1 whole k mk).1 (Memᴰ.append_right xs (Memᴰ.head refl)) in
                  rw later
                  (fails (before j k) (λ b. not_before (xs ++ k ∷ s.0) j s.1 (subst NoRepeats whole t.once) (Memᴰ.append_left (k ∷ s.0) ((t.order xs k ys e j mj).0 b))))

  -- no pair comes before itself
  pub not_itself : (k : P) → Memᴰ k ks → before k k ≡ false
  not_itself k m =
      let s = mem_split k ks m in
      fails (before k k) (λ b. not_before s.0 k s.1 (subst NoRepeats s.2 t.once) ((t.order s.0 k s.1 s.2 k m).0 b))

  module _ (v : P → ℕ) where
    abbrev full : P → ℕ
    full = settled before src v

    edges_settled : (k : P) → Memᴰ k ks → edge_by same before img src v k ≡ eqb (settled before src v k) 1
    unfolding driven_to pick
    edges_settled k m = counted (v k) 1 (full k) (before (src k) k) (omega arith) (settled_known before src v k) (λ u. rw (settled_unknown before src v k u) (at (before (src k) k)))
      where
        at : (b : Bool) → eqb (pick b 1 0) 1 ≡ b
        at true = refl
        at false = refl

    gaps_settled : (k : P) → Memᴰ k ks → img k ≢ k → gap_by same before img src v k ≡ eqb (settled before src v (img k)) 0
    unfolding driven_to pick
    gaps_settled k m moved =
        counted (v (img k)) 0 (full (img k)) (before (img k) k) (omega arith) (settled_known before src v (img k))
        (λ u.
        rw (settled_unknown before src v (img k) u, t.source_image k m, one_way (img k) k (t.image_in k m) m moved) (at (before k (img k))))
      where
        at : (b : Bool) → eqb (pick b 1 0) 0 ≡ not b
        at true = refl
        at false = refl

  -- the walk without memory, and what it means to win
  freely : (v : P → ℕ) → walk same img ks v ≡ free same before img src v ks
  freely v =
      free_walk t.tells before (λ k. Memᴰ k ks) img src v t.image_in t.source_in t.image_source t.source_image ks t.once t.order (λ k m. m)

  means : (v : P → ℕ) → Won same img ks v ↔ Beaten (λ k. Memᴰ k ks) img ks v
  means v = won_means t.tells (λ k. Memᴰ k ks) img ks (λ k m. m) t.image_in v

  -- two drawings with the same settled entries are walked alike
  module _ (v w : P → ℕ) (alike : Each (λ k. settled before src v k ≡ settled before src w k) ks) where
    moves_alike : (k : P) → Memᴰ k ks
        → free_move (same (img k) k) (edge_by same before img src v k) (gap_by same before img src v k)
        ≡ free_move (same (img k) k) (edge_by same before img src w k) (gap_by same before img src w k)
    moves_alike k m = at (same (img k) k) refl
      where
        at : (own : Bool) → same (img k) k ≡ own
            → free_move own (edge_by same before img src v k) (gap_by same before img src v k)
            ≡ free_move own (edge_by same before img src w k) (gap_by same before img src w k)
        at true e = unfold free_move pick in refl
        at false e =
            let moved = apart t.tells e in
            rw (edges_settled v k m, edges_settled w k m, gaps_settled v k m moved, gaps_settled w k m moved, alike k m, alike (img k) (t.image_in k m)) refl

    free_alike : (js : List P) → Each (λ k. Memᴰ k ks) js → free same before img src v js ≡ free same before img src w js
    unfolding free
    free_alike [] h = refl
    free_alike (k ∷ js) h =
        rw (moves_alike k (each_first (λ k. Memᴰ k ks) h), free_alike js (each_rest (λ k. Memᴰ k ks) h)) refl

    pub walk_alike : walk same img ks v ≡ walk same img ks w
    walk_alike = freely v ∙ free_alike ks (λ k m. m) ∙ sym (freely w)

  -- ---- which drawing decides

  module _ (v : P → ℕ) where
    -- the walk is won exactly where the copy of the settled drawing is earlier
    pub won_settled : Won same img ks v ↔ Earlier ks (copy img (settled before src v)) (settled before src v)
    won_settled = (to, from)
      where
        x : P → ℕ
        x = settled before src v

        itself : (k : P) → x k ≡ settled before src x k
        itself k = sym (settled_known before src x k (settled_full before src v k))

        to : Won same img ks v → Earlier ks (copy img x) x
        to w = (means v).0 w x (λ k m. settled_full before src v k) (λ k m h. settled_known before src v k h)

        from : Earlier ks (copy img x) x → Won same img ks v
        from e =
            let w : Won same img ks x =
            (means x).1
            (λ H f h.
            earlier_alike ks (copy img x) x (copy img H) H (λ k m. h (img k) (t.image_in k m) (settled_full before src v (img k))) (λ k m. h k m (settled_full before src v k)) e) in
            (w.0, walk_alike v x (λ k m. itself k) ∙ w.1)

  -- the walk over v wins at w: the settled entries up to there are those of the copy
  pub record WinsAt (v : P → ℕ) (w : P) : Type 0 where
    pub listed : Memᴰ w ks
    pub agrees : (k : P) → Memᴰ k ks → before k w ≡ true → settled before src v (img k) ≡ settled before src v k
    pub one : settled before src v w ≡ 1
    pub zero : settled before src v (img w) ≡ 0

  module _ (v : P → ℕ) where
    abbrev x : P → ℕ
    x = settled before src v

    -- the list is split at w, before which each entry is as its copy
    record FirstAt (w : P) (js : List P) : Type 0 where
      before_it : List P
      after_it : List P
      split : js ≡ before_it ++ w ∷ after_it
      agrees : Each (λ k. x (img k) ≡ x k) before_it
      one : x w ≡ 1
      zero : x (img w) ≡ 0

    more : {w k : P} {js : List P} → x (img k) ≡ x k → FirstAt w js → FirstAt w (k ∷ js)
    more {w} {k} e f =
        record {
          before_it = k ∷ f.before_it;
          after_it = f.after_it;
          split = ap (λ (l : List P). k ∷ l) f.split;
          agrees = each_cons (λ k. x (img k) ≡ x k) e f.agrees;
          one = f.one;
          zero = f.zero;
        }

    first_at : (w : P) (js : List P) → Each (λ k. Memᴰ k ks) js → free same before img src v js ≡ won w → FirstAt w js
    unfolding free free_move pick ending
    first_at w [] h e = absurd (open_not_won e)
    first_at w (k ∷ js) h e =
        at (same (img k) k) (edge_by same before img src v k) (gap_by same before img src v k) refl refl refl e (first_at w js (each_rest (λ k. Memᴰ k ks) h))
      where
        here : Memᴰ k ks
        here = each_first (λ k. Memᴰ k ks) h

        rest : Outcome P
        rest = free same before img src v js

        at : (own edge gap : Bool) → same (img k) k ≡ own → edge_by same before img src v k ≡ edge → gap_by same before img src v k ≡ gap
            → ending (pick own skips (pick edge (pick gap wins goes_on) (pick gap goes_on loses))) k rest ≡ won w
            → (rest ≡ won w → FirstAt w js) → FirstAt w (k ∷ js)
        at true edge gap o a b e go = more (ap x (t.tells.equal (img k) k o)) (go e)
        at false true true o a b e go =
            let first : k ≡ w = cc in
            record {
              before_it = [];
              after_it = js;
              split = ap (λ (j : P). j ∷ js) first;
              agrees = each_none (λ k. x (img k) ≡ x k);
              one = rw (← first) (eqb-true (x k) 1 (sym (edges_settled v k here) ∙ a));
              zero = rw (← first) (eqb-true (x (img k)) 0 (sym (gaps_settled v k here (apart t.tells o)) ∙ b));
            }
        at false true false o a b e go =
            more (omega (arith, eqb-true (x k) 1 (sym (edges_settled v k here) ∙ a), eqb-false (x (img k)) 0 (sym (gaps_settled v k here (apart t.tells o)) ∙ b), settled_full before src v (img k))) (go e)
        at false false true o a b e go =
            more (omega (arith, eqb-false (x k) 1 (sym (edges_settled v k here) ∙ a), eqb-true (x (img k)) 0 (sym (gaps_settled v k here (apart t.tells o)) ∙ b), settled_full before src v k)) (go e)
        at false false false o a b e go = absurd (lost_not_won e)

    pub wins_at : (w : P) → walk same img ks v ≡ won w → WinsAt v w
    wins_at w e =
        let f = first_at w ks (λ k m. m) (sym (freely v) ∙ e) in
        record {
          listed = rw f.split (Memᴰ.append_right f.before_it (Memᴰ.head refl));
          agrees = λ k m b. f.agrees k ((t.order f.before_it w f.after_it f.split k m).0 b);
          one = f.one;
          zero = f.zero;
        }

    -- where settled entries are so, the walk is won
    pub at_wins : (w : P) → WinsAt v w → Won same img ks v
    at_wins w h =
        let s = mem_split w ks h.listed in
        (won_settled v).1
        record {
          before = s.0;
          pair = w;
          after = s.1;
          split = s.2;
          agree = λ k m. let mk : Memᴰ k ks = rw s.2 (Memᴰ.append_left (w ∷ s.1) m) in h.agrees k mk ((t.order s.0 w s.1 s.2 k mk).1 m);
          zero_here = h.zero;
          one_there = h.one;
        }

    -- and where at a pair, before which each entry is as its copy, it is the other way round, the walk is not won
    pub loses_at : (f : P) → Memᴰ f ks → ((k : P) → Memᴰ k ks → before k f ≡ true → x (img k) ≡ x k) → x f ≡ 0 → x (img f) ≡ 1 → ¬ Won same img ks v
    loses_at f m agrees zero one w =
        earlier_irreflexive x ks (earlier_transitive x (copy img x) x ks later ((won_settled v).0 w))
      where
        later : Earlier ks x (copy img x)
        later =
            let s = mem_split f ks m in
            record {
              before = s.0;
              pair = f;
              after = s.1;
              split = s.2;
              agree = λ k i. let mk : Memᴰ k ks = rw s.2 (Memᴰ.append_left (f ∷ s.1) i) in sym (agrees k mk ((t.order s.0 f s.1 s.2 k mk).1 i));
              zero_here = zero;
              one_there = one;
            }
