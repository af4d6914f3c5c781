-- What judging answers, in the rules' words: refused, cut, none or smaller, each exactly where the rules say so.
use Prim.Native.Nat.{ℕ, ◌≤◌, ◌<◌}
use native.Mathlib.Omega.{arith}
use mathlib.Core.Path.{◌≡◌, refl, sym, ap, ◌∙◌}
use mathlib.Core.Logic.{◌⊎◌, inl, inr, ◌↔◌, ◌≢◌}
use mathlib.Core.Bool.{Bool, true, false, true≢false}
use mathlib.Core.List.{List}
use lib.Dec.{eqb, leb}
use lib.ListN.{length}
use borrow.Author.Tests.{eqb-true, eq-eqb, le-leb, lt-leb, leb-true, leb-false}
use Rattle.laws.specs.Test.{either}
use Rattle.laws.specs.UpToLaws.{list_length}
use Rattle.laws.specs.TestLaws.{unless_true, unless_false, fails, one_holds, either_first, either_second}
use Rattle.beginnings.specs.Search.{Found, cut, none, first}
use Rattle.beginnings.proofs.Steps.{cut_exactly, zero_cut}
use Rattle.schemes.specs.Judging.{first_of, extended}
use Rattle.schemes.proofs.Certificates.{certified_first}
use Rattle.schemes.specs.Answer.{Answer}
use Rattle.schemes.specs.Answer
use Rattle.schemes.proofs.Exact.{answered, answer_alone}
use Rattle.plain.specs.Plain.{by_mode}
use Rattle.plain.proofs.Modes.{mode_lawful}
use Rattle.graph.specs.declared.Graph.{Graph}
use Rattle.rows.specs.Rows.{block_of}
use Rattle.graph.specs.WellFormed.{WellFormed, well_formed}
use Rattle.arrangements.specs.Arrangement.{at}
use Rattle.pairs.specs.Pairs.{Pair, pair_count}
use Rattle.graph.specs.Counts.{entry_at}
use Rattle.graph.proofs.Formed.{formed, tested, not_formed}
use Rattle.judging.specs.declared.Verdict.TheVariants.{Smaller, Nothing, Cut, Refused}
use Rattle.judging.specs.declared.Judged.{Judged}
use Rattle.judging.specs.Judging.{clause_of, judged, found, steps_for, padded, certificate_of}
use Rattle.judging.specs.Answer.{told, without, winning_pair, smaller, answer_for, is_mode, judge_answer}
use Rattle.judging.specs.Certificates.{Certified}
use Rattle.judging.specs.InWords.{smaller_by, KnownMode, Taken, InWords, unknown_mode, malformed, cramped, cut_off, none_smaller, found_smaller}
use Rattle.judging.proofs.Arrangements.{permitted_padded, padded_walk}
use Rattle.judging.proofs.Certificates.{certified_certifies, padded_certified, padded_first, start_first}

-- the test tells the modes
pub known_mode : (mode : ℕ) → (is_mode mode ≡ true) ↔ KnownMode mode
unfolding is_mode
known_mode mode = (λ t. to (one_holds (eqb mode 1) (eqb mode 2) t), from)
  where
    to : (eqb mode 1 ≡ true) ⊎ (eqb mode 2 ≡ true) → KnownMode mode
    to (inl t) = inl (eqb-true mode 1 t)
    to (inr t) = inr (eqb-true mode 2 t)

    from : KnownMode mode → either (eqb mode 1) (eqb mode 2) ≡ true
    from (inl e) = either_first (eqb mode 1) (eqb mode 2) (eq-eqb mode 1 e)
    from (inr e) = either_second (eqb mode 1) (eqb mode 2) (eq-eqb mode 2 e)

module _ (mode : ℕ) (g : Graph) (budget room : ℕ) where
  -- ---- the checks, in their order

  -- 16: the mode is neither 1 nor 2
  pub refused_mode : ¬ KnownMode mode → judge_answer mode g budget room ≡ without (Refused 16 0)
  unfolding judge_answer
  refused_mode no_mode = unless_false (is_mode mode) _ _ (fails (is_mode mode) (λ t. no_mode ((known_mode mode).0 t)))

  -- 8: the graph is not well formed
  pub refused_malformed : KnownMode mode → ¬ WellFormed g → judge_answer mode g budget room ≡ without (Refused 8 0)
  unfolding judge_answer
  refused_malformed m no_graph_lem = unless_true (is_mode mode) _ _ ((known_mode mode).1 m) ∙ unless_false (well_formed g) _ _ (fails (well_formed g) (λ t. no_graph_lem (formed g t)))

  -- 5: the buffer is below n(n - 1)/2
  pub refused_cramped : KnownMode mode → WellFormed g → room < pair_count g.order → judge_answer mode g budget room ≡ without (Refused 5 0)
  unfolding judge_answer
  refused_cramped m w h = unless_true (is_mode mode) _ _ ((known_mode mode).1 m) ∙ unless_true (well_formed g) _ _ (tested g w) ∙ unless_false (leb (pair_count g.order) room) _ _ (lt-leb (pair_count g.order) room h)

  -- ---- the answer

  -- an answer of the theory, as judging tells it
  told_as : Answer Pair → Judged
  told_as Answer.cut_off = without (Cut budget)
  told_as (Answer.none_smaller m) = without (Nothing m)
  told_as (Answer.smaller p o m) =
      let k = winning_pair o in
      record { verdict = Smaller k.row k.column m; arrangement = padded p; literals = length (clause_of mode g (padded p)) }

  told_as_lem : (f : Found) → answer_for mode g budget f ≡ told_as (Answer.answer_for g.order (by_mode mode g.order) (block_of g.starts) (entry_at g) f)
  unfolding answer_for Answer.answer_for smaller certificate_of told_as
  told_as_lem cut = refl
  told_as_lem (none m) = refl
  told_as_lem (first b m) = rw (padded_walk mode g (extended g.order (by_mode mode g.order) (block_of g.starts) b))

  -- past all checks: what the theory answers
  passed : Taken mode g room → judge_answer mode g budget room ≡ told_as (Answer.answer g.order (by_mode mode g.order) (block_of g.starts) (entry_at g) budget)
  unfolding judge_answer Answer.answer
  passed t =
      unless_true (is_mode mode) _ _ ((known_mode mode).1 t.known) ∙ unless_true (well_formed g) _ _ (tested g t.formed)
      ∙ unless_true (leb (pair_count g.order) room) _ _ (le-leb (pair_count g.order) room t.enough)
      ∙ told_as_lem (found mode g budget)

  -- which the rules' words tell
  by_theory : Taken mode g room → {a : Answer Pair}
      → Answer.InWords g.order (by_mode mode g.order) (block_of g.starts) (entry_at g) budget a → InWords mode g budget room (told_as a)
  unfolding told_as winning_pair
  by_theory t (Answer.budget_short l) = cut_off t l
  by_theory t (Answer.no_certificate l nowhere) = none_smaller t l (λ p c. nowhere p (certified_certifies mode g t.formed p c))
  by_theory t (Answer.first_certificate l {p} {k} f e) = found_smaller t l (padded_first mode g t.formed p k f e)

  -- judging answers as the rules say
  pub judged_in_words : InWords mode g budget room (judge_answer mode g budget room)
  judged_in_words = at (is_mode mode) (well_formed g) (leb (pair_count g.order) room) refl refl refl
    where
      at : (s t u : Bool) → is_mode mode ≡ s → well_formed g ≡ t → leb (pair_count g.order) room ≡ u → InWords mode g budget room (judge_answer mode g budget room)
      at false t u d e f = let no_mode : ¬ KnownMode mode = λ m. true≢false (sym ((known_mode mode).1 m) ∙ d) in rw (refused_mode no_mode) (unknown_mode no_mode)
      at true false u d e f = let m = (known_mode mode).0 d in let no_graph_lem : ¬ WellFormed g = not_formed g e in rw (refused_malformed m no_graph_lem) (malformed m no_graph_lem)
      at true true false d e f = let m = (known_mode mode).0 d in let h = leb-false (pair_count g.order) room f in rw (refused_cramped m (formed g e) h) (cramped m (formed g e) h)
      at true true true d e f =
          let t : Taken mode g room = record { known = (known_mode mode).0 d; formed = formed g e; enough = leb-true (pair_count g.order) room f } in
          rw (passed t) (by_theory t (answered (mode_lawful mode g.order) (formed g e).order_low (block_of g.starts) (entry_at g) budget))

  -- what the theory's words tell is the answer
  alone : Taken mode g room → {a : Answer Pair} → Answer.InWords g.order (by_mode mode g.order) (block_of g.starts) (entry_at g) budget a → told_as a ≡ judge_answer mode g budget room
  alone t x = ap told_as (answer_alone (mode_lawful mode g.order) t.formed.order_low (block_of g.starts) (entry_at g) budget x) ∙ sym (passed t)

  -- and nothing else is what the rules say
  pub words_alone : {a : Judged} → InWords mode g budget room a → a ≡ judge_answer mode g budget room
  unfolding told_as winning_pair
  words_alone (unknown_mode no_mode) = sym (refused_mode no_mode)
  words_alone (malformed m no_graph_lem) = sym (refused_malformed m no_graph_lem)
  words_alone (cramped m w h) = sym (refused_cramped m w h)
  words_alone (cut_off t l) = alone t (Answer.budget_short l)
  words_alone (none_smaller t l nowhere) =
      alone t (Answer.no_certificate l (λ p c. nowhere (padded (first_of g.order p)) (padded_certified mode g t.formed (first_of g.order p) (certified_first (mode_lawful mode g.order) (block_of g.starts) (entry_at g) p c) (list_length (λ i. at p i) g.order))))
  words_alone (found_smaller t l {p} {k} f) =
      let s = start_first mode g t.formed p k f in
      ap (λ (q : List ℕ). smaller_by mode g q k) (permitted_padded g.order g.starts t.formed.order_high p f.certified.permitted) ∙ alone t (Answer.first_certificate l s.0 s.1)

  -- ---- past the checks

  module _ (taken : Taken mode g room) where
    -- with a budget below the steps needed: cut, and the budget
    pub exact_cut : budget < steps_for mode g → judge_answer mode g budget room ≡ without (Cut budget)
    exact_cut l = sym (words_alone (cut_off taken l))

    -- and cut only so
    pub exact_cut_only : (told (judge_answer mode g budget room).verdict).kind ≡ 2 → budget < steps_for mode g
    unfolding told without
    exact_cut_only = at judged_in_words
      where
        at : {a : Judged} → InWords mode g budget room a → (told a.verdict).kind ≡ 2 → budget < steps_for mode g
        at (unknown_mode no_mode) e = absurd (no_mode taken.known)
        at (malformed m no_graph_lem) e = absurd (no_graph_lem taken.formed)
        at (cramped m v h) e = absurd (omega (arith, taken.enough))
        at (cut_off v l) e = l
        at (none_smaller v l nowhere) e = absurd (omega arith)
        at (found_smaller v l f) e = absurd (omega arith)

    -- nothing is refused
    pub not_refused : (told (judge_answer mode g budget room).verdict).kind ≢ 3
    unfolding told without
    not_refused = at judged_in_words
      where
        at : {a : Judged} → InWords mode g budget room a → (told a.verdict).kind ≢ 3
        at (unknown_mode no_mode) e = absurd (no_mode taken.known)
        at (malformed m no_graph_lem) e = absurd (no_graph_lem taken.formed)
        at (cramped m v h) e = absurd (omega (arith, taken.enough))
        at (cut_off v l) e = absurd (omega arith)
        at (none_smaller v l nowhere) e = absurd (omega arith)
        at (found_smaller v l f) e = absurd (omega arith)

    module _ (reach : steps_for mode g ≤ budget) where
      -- "smaller" exactly where there is a certificate
      pub exact_smaller : ((told (judge_answer mode g budget room).verdict).kind ≡ 1) ↔ ((p : List ℕ) × Certified mode g p)
      unfolding told without
      exact_smaller = (to judged_in_words, from judged_in_words)
        where
          to : {a : Judged} → InWords mode g budget room a → (told a.verdict).kind ≡ 1 → (p : List ℕ) × Certified mode g p
          to (unknown_mode no_mode) e = absurd (no_mode taken.known)
          to (malformed m no_graph_lem) e = absurd (no_graph_lem taken.formed)
          to (cramped m v h) e = absurd (omega (arith, taken.enough))
          to (cut_off v l) e = absurd (omega arith)
          to (none_smaller v l nowhere) e = absurd (omega arith)
          to (found_smaller v l {p} f) e = (p, f.certified)

          from : {a : Judged} → InWords mode g budget room a → (p : List ℕ) × Certified mode g p → (told a.verdict).kind ≡ 1
          from (unknown_mode no_mode) c = absurd (no_mode taken.known)
          from (malformed m no_graph_lem) c = absurd (no_graph_lem taken.formed)
          from (cramped m v h) c = absurd (omega (arith, taken.enough))
          from (cut_off v l) c = absurd (omega arith)
          from (none_smaller v l nowhere) c = absurd (nowhere c.0 c.1)
          from (found_smaller v l f) c = refl

      -- "none" exactly where there is none
      pub exact_none : ((told (judge_answer mode g budget room).verdict).kind ≡ 0) ↔ ((p : List ℕ) → ¬ Certified mode g p)
      unfolding told without
      exact_none = (to judged_in_words, λ nowhere. ap (λ (a : Judged). (told a.verdict).kind) (sym (words_alone (none_smaller taken reach nowhere))))
        where
          to : {a : Judged} → InWords mode g budget room a → (told a.verdict).kind ≡ 0 → (p : List ℕ) → ¬ Certified mode g p
          to (unknown_mode no_mode) e = absurd (no_mode taken.known)
          to (malformed m no_graph_lem) e = absurd (no_graph_lem taken.formed)
          to (cramped m v h) e = absurd (omega (arith, taken.enough))
          to (cut_off v l) e = absurd (omega arith)
          to (none_smaller v l nowhere) e = nowhere
          to (found_smaller v l f) e = absurd (omega arith)

      -- and the steps told are those needed
      pub exact_steps : (told (judge_answer mode g budget room).verdict).steps ≡ steps_for mode g
      unfolding told without
      exact_steps = at judged_in_words
        where
          at : {a : Judged} → InWords mode g budget room a → (told a.verdict).steps ≡ steps_for mode g
          at (unknown_mode no_mode) = absurd (no_mode taken.known)
          at (malformed m no_graph_lem) = absurd (no_graph_lem taken.formed)
          at (cramped m v h) = absurd (omega (arith, taken.enough))
          at (cut_off v l) = absurd (omega arith)
          at (none_smaller v l nowhere) = refl
          at (found_smaller v l f) = refl

-- a budget of 0 is always cut
pub exact_zero : (mode : ℕ) (g : Graph) (room : ℕ) → Taken mode g room → judge_answer mode g 0 room ≡ without (Cut 0)
exact_zero mode g room t =
    exact_cut mode g 0 room t ((cut_exactly g.order (block_of g.starts) (judged mode g) 0).0 (zero_cut g.order (block_of g.starts) (judged mode g) t.formed.order_low))
