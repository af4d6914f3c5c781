-- The walk on after the winning pair, by numbers, tells what can be dropped there.
use Prim.Native.Nat.{ℕ, ◌≤◌}
use native.Mathlib.Omega.{arith}
use native.Mathlib.Decide.{ℕ_discrete}
use mathlib.Core.Path.{◌≡◌, refl, sym, ap, ap₂, ◌∙◌}
use mathlib.Core.Logic.{◌⊎◌, inl, inr, ◌≢◌, ◌↔◌}
use mathlib.Core.Bool.{Bool, true, false, not, true≢false}
use mathlib.Core.List.Memᴰ
use mathlib.Core.List.{List, [], ◌∷◌, ◌++◌, append_assoc, Memᴰ}
use lib.Dec.{eqb}
use borrow.Author.Tests.{eqb-true, eq-eqb, ne_eqb}
use Rattle.laws.specs.Each.{Each, each_first, each_rest}
use Rattle.laws.specs.ListLaws.{mem_split}
use Rattle.laws.specs.Test.{both, pick}
use Rattle.laws.specs.TestLaws.{fails, holds_or_fails, same_test, both_after, first_fails, pick_true, pick_false}
use Rattle.walk.specs.Earlier.{Earlier, copy}
use Rattle.walk.proofs.Order.{earlier_here, earlier_later, earlier_cases, earlier_none}
use Rattle.walk.proofs.Put.{one_or_two}
use Rattle.needed.specs.Settled.{Turned, WonWalk, up_to, settled, stays, staying, wins_by}
use Rattle.needed.specs.Settled
use Rattle.needed.proofs.Settled.{settled_full, not_itself}
use Rattle.needed.proofs.After.{late_counts, early_counts, first_counts, last_counts, image_trial, pair_trial}
use Rattle.plain.specs.Plain.{same_pair, image, compared_in}
use Rattle.plain.specs.Before.{before_in}
use Rattle.plain.proofs.Plain.{same_pair_tells}
use Rattle.graph.specs.declared.Graph.{Graph}
use Rattle.graph.specs.Counts.{entry_at}
use Rattle.rows.specs.Rows.{entry_in}
use Rattle.arrangements.specs.Arrangement.{at}
use Rattle.pairs.specs.Pairs.{Pair}
use Rattle.judging.proofs.Arrangements.{entry_of_two}
use Rattle.turns.specs.Turns.{turn_by, walk_code}
use Rattle.turns.specs.Next.{pairs_after}
use Rattle.turns.proofs.NextLaws.{compared_split}
use Rattle.kinds.specs.Kinds.{kind_at}
use Rattle.trials.specs.After.{count_after, turn_after}
use Rattle.trials.proofs.CodeAfter.{gap_passes}
use Rattle.dropped.specs.Dropping.{WinsAt, image_may, pair_may}
use Rattle.dropped.proofs.KindsStay.{kind_none}
use Rattle.dropped.proofs.Winning.{well_formed_lem, turned, won_walk, winning_is, winning_listed}

-- ---- a walk over a full drawing, by numbers

-- it is won exactly where the copy is earlier
won_earlier : (x : Pair → ℕ) (img : Pair → Pair) (t : Pair → ℕ) (ks : List Pair) → ((k : Pair) → x k ≤ 1) → Each (λ k. t k ≡ turn_by (x k) (x (img k)) (same_pair (img k) k)) ks
    → (walk_code t ks ≡ 2) ↔ Earlier ks (copy img x) x
unfolding walk_code turn_by pick
won_earlier x img t [] full h = (λ e. absurd (omega arith), λ e. absurd (earlier_none (copy img x) x e))
won_earlier x img t (k ∷ ks) full h =
    at (ℕ_discrete (x k) (x (img k))) (won_earlier x img t ks full (each_rest (λ k. t k ≡ turn_by (x k) (x (img k)) (same_pair (img k) k)) h))
  where
    here : t k ≡ turn_by (x k) (x (img k)) (same_pair (img k) k)
    here = each_first (λ k. t k ≡ turn_by (x k) (x (img k)) (same_pair (img k) k)) h

    rest : ℕ
    rest = walk_code t ks

    -- where the two are the same, the walk goes on
    on : x k ≡ x (img k) → t k ≡ 0
    on e = here ∙ rw (eq-eqb (x k) (x (img k)) e) refl

    -- else it ends
    wins : x k ≡ 1 → x (img k) ≡ 0 → t k ≡ 2
    wins a b = here ∙ rw (a, b) refl

    loses : x k ≡ 0 → x (img k) ≡ 1 → t k ≡ 1
    loses a b =
        let moved : same_pair (img k) k ≡ false = fails (same_pair (img k) k) (λ e. omega (arith, a, b, ap x (same_pair_tells.equal (img k) k e))) in
        here ∙ rw (a, b, moved) refl

    at : Dec (x k ≡ x (img k)) → (rest ≡ 2) ↔ Earlier ks (copy img x) x → (pick (eqb (t k) 0) rest (t k) ≡ 2) ↔ Earlier (k ∷ ks) (copy img x) x
    at (yes e) go =
        let passes : pick (eqb (t k) 0) rest (t k) ≡ rest = pick_true (eqb (t k) 0) rest (t k) (eq-eqb (t k) 0 (on e)) in
        (λ w. earlier_later (copy img x) x (sym e) (go.0 (sym passes ∙ w)), λ w. passes ∙ go.1 (past (earlier_cases (copy img x) x w)))
      where
        past : ((x (img k) ≡ 0) × (x k ≡ 1)) ⊎ ((x (img k) ≡ x k) × Earlier ks (copy img x) x) → Earlier ks (copy img x) x
        past (inl z) = absurd (omega (arith, z.0, z.1, e))
        past (inr z) = z.1
    at (no n) go = side (ℕ_discrete (x k) 1)
      where
        ends : (c : ℕ) → t k ≡ c → c ≢ 0 → pick (eqb (t k) 0) rest (t k) ≡ c
        ends c e z = pick_false (eqb (t k) 0) rest (t k) (ne_eqb (t k) 0 (λ f. z (sym e ∙ f))) ∙ e

        side : Dec (x k ≡ 1) → (pick (eqb (t k) 0) rest (t k) ≡ 2) ↔ Earlier (k ∷ ks) (copy img x) x
        side (yes a) =
            let b : x (img k) ≡ 0 = other (x k) (x (img k)) a (full (img k)) n in
            (λ w. earlier_here (copy img x) x b a, λ w. ends 2 (wins a b) (λ z. omega arith))
          where
            other : (i j : ℕ) → i ≡ 1 → j ≤ 1 → i ≢ j → j ≡ 0
            other i j a h n = omega arith
        side (no m) =
            let a : x k ≡ 0 = low (x k) (full k) m in
            let b : x (img k) ≡ 1 = high (x k) (x (img k)) a (full (img k)) n in
            (λ w. absurd (omega (arith, ends 1 (loses a b) (λ z. omega arith), w)), λ w. absurd (never a b (earlier_cases (copy img x) x w)))
          where
            low : (i : ℕ) → i ≤ 1 → i ≢ 1 → i ≡ 0
            low i h n = omega arith

            high : (i j : ℕ) → i ≡ 0 → j ≤ 1 → i ≢ j → j ≡ 1
            high i j a h n = omega arith

            never : x k ≡ 0 → x (img k) ≡ 1 → ((x (img k) ≡ 0) × (x k ≡ 1)) ⊎ ((x (img k) ≡ x k) × Earlier ks (copy img x) x) → ⊥
            never a b (inl z) = omega (arith, z.0)
            never a b (inr z) = omega (arith, z.0)

-- ---- after the winning pair

module _ {mode : ℕ} {g : Graph} {p q : List ℕ} {w : Pair} (won_at : WinsAt mode g p q w) where
  abbrev before : Pair → Pair → Bool
  before = before_in mode

  abbrev ks : List Pair
  ks = compared_in mode g.order

  -- its walk, and the pairs under it
  abbrev c : WonWalk same_pair (before_in mode) (image p) (image q) (compared_in mode g.order) (entry_at g) w
  c = won_walk won_at

  abbrev t : Turned same_pair (before_in mode) (image p) (image q) (compared_in mode g.order)
  t = turned won_at

  -- where what stands at w is left out, or at its image
  module _ (a b : Bool) where
    abbrev x : Pair → ℕ
    x = settled before (image q) (staying before (image q) (entry_at g) w a b)

    abbrev turn : Pair → ℕ
    turn = turn_after before g.edges g.unknowns p q w a b

    -- what the code reads at the image is the graph's entry there
    entry_there : (k : Pair) → entry_in g.edges g.unknowns (at p k.row) (at p k.column) ≡ entry_at g (image p k)
    entry_there k = sym (entry_of_two g (well_formed_lem won_at) (at p k.row) (at p k.column))

    module _ (k : Pair) (m : Memᴰ k ks) (later : before w k ≡ true) where
      here_is : count_after 0 (entry_at g k) (before (image q k) k) (up_to before b w (image q k)) ≡ x k
      unfolding count_after
      here_is = at (holds_or_fails (before (image q k) k))
        where
          at : (before (image q k) k ≡ true) ⊎ (before (image q k) k ≡ false) → pick (before (image q k) k) (pick (both (eqb (entry_at g k) 0) (up_to before b w (image q k))) 0 1) 0 ≡ x k
          at (inl e) = pick_true (before (image q k) k) _ _ e ∙ sym (late_counts c a b k m later e)
          at (inr e) = pick_false (before (image q k) k) _ _ e ∙ sym (early_counts c a b k m later e)

      there_is : image p k ≢ k → count_after 1 (entry_at g (image p k)) (before (image p k) k) (up_to before a w (image p k)) ≡ x (image p k)
      unfolding count_after
      there_is moved = at (holds_or_fails (before (image p k) k))
        where
          at : (before (image p k) k ≡ true) ⊎ (before (image p k) k ≡ false)
              → pick (before (image p k) k) (pick (both (eqb (entry_at g (image p k)) 1) (up_to before a w (image p k))) 1 0) 1 ≡ x (image p k)
          at (inl e) = pick_true (before (image p k) k) _ _ e ∙ sym (first_counts c a b k m later moved e)
          at (inr e) = pick_false (before (image p k) k) _ _ e ∙ sym (last_counts c a b k m later moved e)

      -- what a pair does by its own count and that of its image
      abbrev by_counts : ℕ → ℕ → ℕ
      by_counts i j = turn_by i j (same_pair (image p k) k)

      abbrev here : ℕ
      here = count_after 0 (entry_at g k) (before (image q k) k) (up_to before b w (image q k))

      turn_is : turn k ≡ by_counts (x k) (x (image p k))
      unfolding turn_after turn_by pick
      turn_is = ap (λ (d : ℕ). by_counts here (count_after 1 d (before (image p k) k) (up_to before a w (image p k)))) (entry_there k) ∙ at (one_or_two same_pair_tells (image p k) k)
        where
          at : (image p k ≡ k) ⊎ (image p k ≢ k) → by_counts here (count_after 1 (entry_at g (image p k)) (before (image p k) k) (up_to before a w (image p k))) ≡ by_counts (x k) (x (image p k))
          at (inr moved) = ap₂ by_counts here_is (there_is moved)
          at (inl e) =
              let back : image q k ≡ k = ap (image q) (sym e) ∙ t.source_image k m in
              let gap : x k ≡ 0 = early_counts c a b k m later (ap (λ (j : Pair). before j k) back ∙ not_itself t k m) in
              let own : same_pair (image p k) k ≡ true = ap (λ (j : Pair). same_pair j k) e ∙ same_pair_tells.itself k in
              sym (gap_passes _ _ _ own (here_is ∙ gap)) ∙ gap_passes (x k) (x (image p k)) _ own gap

    -- the pairs after the winning one decide
    module _ (xs ys : List Pair) (split : compared_in mode g.order ≡ xs ++ w ∷ ys) where
      after : (k : Pair) → Memᴰ k ys → Memᴰ k ks × (before w k ≡ true)
      after k m =
          let s = mem_split k ys m in
          let whole : ks ≡ (xs ++ w ∷ s.0) ++ k ∷ s.1 = split ∙ ap (λ (l : List Pair). xs ++ w ∷ l) s.2 ∙ sym (append_assoc xs (w ∷ s.0) (k ∷ s.1)) in
          (rw split (Memᴰ.append_right xs (Memᴰ.tail m)), (t.order (xs ++ w ∷ s.0) k s.1 whole w (winning_listed won_at)).1 (Memᴰ.append_right xs (Memᴰ.head refl)))

      code_earlier : (walk_code turn ys ≡ 2) ↔ Earlier ys (copy (image p) x) x
      code_earlier = won_earlier x (image p) turn ys (λ k. settled_full before (image q) (staying before (image q) (entry_at g) w a b) k) (λ k m. let h = after k m in turn_is k h.0 h.1)

  -- ---- what may go

  -- the kinds by all the entries that stay
  abbrev kind_here : Pair → ℕ
  kind_here = kind_at (before_in mode) g.edges g.unknowns q w false false

  stays_not : (k : Pair) → kind_here k ≡ 0 → stays before (image q) (entry_at g) w false false k ≡ false
  stays_not k e = turn_over _ (sym (kind_none before g q w false false k) ∙ eq-eqb (kind_here k) 0 e)
    where
      turn_over : (s : Bool) → not s ≡ true → s ≡ false
      turn_over true h = absurd (true≢false (sym h))
      turn_over false h = refl

  stays_some : (k : Pair) → kind_here k ≢ 0 → stays before (image q) (entry_at g) w false false k ≡ true
  stays_some k e = turn_over _ (sym (kind_none before g q w false false k) ∙ ne_eqb (kind_here k) 0 e)
    where
      turn_over : (s : Bool) → not s ≡ false → s ≡ true
      turn_over true h = refl
      turn_over false h = absurd (true≢false h)

  -- the walk on without what is left out
  abbrev walks_on : Bool → Bool → ℕ
  walks_on a b = walk_code (turn_after (before_in mode) g.edges g.unknowns p q w a b) (pairs_after mode g.order w)

  -- what stands at the image of the winning pair may go where it stays and the walk on without it is won
  pub image_kept : kind_here (image p w) ≡ 0 → false ≡ image_may mode g p q w
  unfolding Settled.image_may
  image_kept e = sym (first_fails _ _ (stays_not (image p w) e))

  pub image_tried : kind_here (image p w) ≢ 0 → eqb (walks_on false true) 2 ≡ image_may mode g p q w
  unfolding Settled.image_may
  image_tried e =
      let s = compared_split mode g.order w (winning_is won_at) in
      let some = stays_some (image p w) e in
      let trial = image_trial c s.0 (pairs_after mode g.order w) s.1 some in
      let code = code_earlier false true s.0 (pairs_after mode g.order w) s.1 in
      same_test (eqb (walks_on false true) 2) (wins_by same_pair before (image p) (image q) ks (entry_at g) w false true)
      (λ h. trial.1 (code.0 (eqb-true (walks_on false true) 2 h))) (λ h. eq-eqb (walks_on false true) 2 (code.1 (trial.0 h)))
      ∙ sym (both_after _ _ some)

  -- and so may what stands at the winning pair
  pub pair_kept : kind_here w ≡ 0 → false ≡ pair_may mode g p q w
  unfolding Settled.pair_may
  pair_kept e = sym (first_fails _ _ (stays_not w e))

  pub pair_tried : kind_here w ≢ 0 → eqb (walks_on true false) 2 ≡ pair_may mode g p q w
  unfolding Settled.pair_may
  pair_tried e =
      let s = compared_split mode g.order w (winning_is won_at) in
      let some = stays_some w e in
      let trial = pair_trial c s.0 (pairs_after mode g.order w) s.1 some in
      let code = code_earlier true false s.0 (pairs_after mode g.order w) s.1 in
      same_test (eqb (walks_on true false) 2) (wins_by same_pair before (image p) (image q) ks (entry_at g) w true false)
      (λ h. trial.1 (code.0 (eqb-true (walks_on true false) 2 h))) (λ h. eq-eqb (walks_on true false) 2 (code.1 (trial.0 h)))
      ∙ sym (both_after _ _ some)
