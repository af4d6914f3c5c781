-- What the code of judging comes to.
use Prim.Native.Nat.{ℕ, zero, suc, ◌-◌, ◌≤◌, ◌<◌}
use native.Mathlib.Omega.{arith}
use mathlib.Core.Path.{◌≡◌, refl, sym, ap, ◌∙◌}
use mathlib.Core.Bool.{Bool, true, false}
use mathlib.Core.List.{List, ◌++◌}
use lib.Dec.{eqb, leb}
use lib.IntN.{ℤ}
use lib.ListN.{length, take, drop, replicate}
use lib.Seq.{length-take-le}
use borrow.Author.Tests.{eq-eqb, ne_eqb, le-leb, lt-leb}
use Rattle.laws.specs.Test.{either, pick}
use Rattle.laws.specs.TestLaws.{refused, passed}
use Rattle.walk.specs.Walk.{won}
use Rattle.beginnings.specs.Beginning.{Beginning}
use Rattle.beginnings.specs.Search.{cut, none, first}
use Rattle.beginnings.specs.Search
use Rattle.beginnings.specs.Certificate.{completed}
use Rattle.beginnings.proofs.Completed.{completed_whole}
use Rattle.beginnings.proofs.FirstCertificate.{found_reached}
use Rattle.schemes.specs.Judging.{judging}
use Rattle.schemes.specs.Judging
use Rattle.schemes.proofs.Judgements.{of_won}
use Rattle.plain.specs.Plain.{compared_in, by_mode}
use Rattle.plain.specs.Before.{before_in}
use Rattle.graph.specs.declared.Graph.{Graph}
use Rattle.rows.specs.Rows.{block_of}
use Rattle.graph.specs.WellFormed.{WellFormed, well_formed}
use Rattle.arrangements.specs.Arrangement.{Permitted, is_reordering, is_permitted}
use Rattle.pairs.specs.Pairs.{pair, pairs, pair_count}
use Rattle.graph.specs.Counts.{entry_at}
use Rattle.graph.proofs.Formed.{formed}
use Rattle.arrangements.proofs.Permits.{permitted, permitted_tested, reordering_tested}
use Rattle.judging.specs.declared.Verdict.TheVariants.{Smaller, Nothing, Cut, Refused}
use Rattle.judging.specs.declared.Judged.{Judged}
use Rattle.judging.specs.Judging.{walk_all, clause_of, judged, found, padded, certificate_of}
use Rattle.judging.specs.Answer.{without, winning_pair, smaller, answer_for, is_mode, judge_answer, at_start, judge_buffer}
use Rattle.composing.specs.Composed.{inverse}
use Rattle.turns.specs.Turns.{turn_at, first_pair, Places}
use Rattle.graph.specs.Graph.{graph_of}
use Rattle.judging.proofs.Arrangements.{padded_permitted}
use Rattle.refusal.specs.declared.Refusal.{Refusal}
use Rattle.refusal.specs.declared.Refusal.TheVariants.{LiteralRoom, Malformed}
use Rattle.refusal.specs.Numbers.{number_of, place_of}
use Rattle.search.specs.Won.{IsWon}
use Rattle.dropped.proofs.Winning.{inverse_places, row_low}
use Rattle.clause.proofs.CodeCertificate.{wins_there}
use Rattle.judging.proofs.Certificates.{certificate_walk}

pub taken_long : (n : ℕ) (es us : List ℕ) (starts : ℕ) → well_formed (graph_of n es us starts) ≡ true → (start : List ℕ) (depth : ℕ) → length start ≡ 32 → depth ≤ n → length (take depth start) ≡ depth
taken_long n es us starts w start depth l d = length-take-le depth start (omega (arith, (formed (graph_of n es us starts) w).order_high))

module _ (n : ℕ) (es us : List ℕ) (starts : ℕ) (w : well_formed (graph_of n es us starts) ≡ true) (start : List ℕ) (depth : ℕ) (l : length start ≡ 32) (d : depth ≤ n) (b : Beginning n (block_of starts) (take depth start))
    (path : List ℕ) (p : path ≡ padded (completed n (block_of starts) (n - depth) (take depth start))) where
  is_formed : WellFormed (graph_of n es us starts)
  is_formed = formed (graph_of n es us starts) w

  is_certificate : path ≡ certificate_of (graph_of n es us starts) (take depth start)
  unfolding certificate_of
  is_certificate = p ∙ ap (λ (m : ℕ). padded (completed n (block_of starts) (n - m) (take depth start))) (sym (taken_long n es us starts w start depth l d))

  is_permitted_lem : Permitted n starts path
  unfolding certificate_of
  is_permitted_lem =
      let c = completed_whole n (block_of starts) (take depth start) b in
      rw is_certificate (padded_permitted n starts is_formed.order_high (completed n (block_of starts) (n - length (take depth start)) (take depth start)) c.beginning c.whole)

  pub certificate_tested : is_permitted n starts path ≡ true
  certificate_tested = permitted_tested n starts path is_permitted_lem

  -- the certificate wins where the beginning is won
  pub certificate_wins : (mode : ℕ) → judged mode (graph_of n es us starts) (take depth start) ≡ Search.won → IsWon (walk_all mode (graph_of n es us starts) path)
  unfolding Judging.judged
  certificate_wins mode j =
      let r = of_won (judging (by_mode mode n) (entry_at (graph_of n es us starts)) (take depth start)) j in
      record { pair = r.0; at = rw is_certificate (certificate_walk mode (graph_of n es us starts) is_formed (take depth start) r.0 b r.1) }

  pub certified_is : (mode : ℕ) (r : Judged) (steps : ℕ) → r ≡ smaller mode (graph_of n es us starts) path steps → r ≡ smaller mode (graph_of n es us starts) (certificate_of (graph_of n es us starts) (take depth start)) steps
  certified_is mode r steps e = e ∙ ap (λ (q : List ℕ). smaller mode (graph_of n es us starts) q steps) is_certificate

  pub clause_is : (mode : ℕ) (before after : List ℤ) → after ≡ clause_of mode (graph_of n es us starts) path ++ drop (length (clause_of mode (graph_of n es us starts) path)) before
      → after ≡ clause_of mode (graph_of n es us starts) (certificate_of (graph_of n es us starts) (take depth start)) ++ drop (length (clause_of mode (graph_of n es us starts) (certificate_of (graph_of n es us starts) (take depth start)))) before
  clause_is mode before after e = e ∙ ap (λ (q : List ℕ). clause_of mode (graph_of n es us starts) q ++ drop (length (clause_of mode (graph_of n es us starts) q)) before) is_certificate

-- ---- a certificate as it is told

module _ (n : ℕ) (es us : List ℕ) (starts : ℕ) (w : well_formed (graph_of n es us starts) ≡ true) (path : List ℕ) (p : is_permitted n starts path ≡ true) where
  is_arrangement : Permitted n starts path
  is_arrangement = permitted n starts path (formed (graph_of n es us starts) w).order_high p

  pub certificate_reorders : is_reordering n path ≡ true
  certificate_reorders = reordering_tested n path is_arrangement.reordering

  module _ (places : List ℕ) (q : places ≡ inverse n path) where
    pub certificate_places : Places n path places
    certificate_places = inverse_places n starts path places (formed (graph_of n es us starts) w).order_high is_arrangement q

    module _ (mode : ℕ) (o : IsWon (walk_all mode (graph_of n es us starts) path)) (row column : ℕ) (s : pair row column ≡ first_pair (turn_at (before_in mode) es us path places) (compared_in mode n)) where
      -- it wins at the pair that is found
      pub wins_at : walk_all mode (graph_of n es us starts) path ≡ won (pair row column)
      wins_at = wins_there mode (graph_of n es us starts) (formed (graph_of n es us starts) w) path places is_arrangement q o.pair o.at row column s

      pub wins_low : 1 ≤ row
      wins_low = row_low (record { well = w; fits = p; inverts = q; wins = wins_at })

      pub smaller_is : (steps count : ℕ) → count ≡ length (clause_of mode (graph_of n es us starts) path)
          → ◌≡◌ {A = Judged} (record { verdict = Smaller row column steps; arrangement = path; literals = count }) (smaller mode (graph_of n es us starts) path steps)
      unfolding smaller winning_pair
      smaller_is steps count e = rw (wins_at, e)

-- ---- from the search to the answer

module _ (mode : ℕ) (g : Graph) (budget : ℕ) (r : Judged) where
  pub answers_none : (steps : ℕ) → none steps ≡ found mode g budget → r ≡ without (Nothing steps) → r ≡ answer_for mode g budget (found mode g budget)
  unfolding answer_for
  answers_none steps f q = rw (sym f) q

  pub answers_cut : cut ≡ found mode g budget → r ≡ without (Cut budget) → r ≡ answer_for mode g budget (found mode g budget)
  unfolding answer_for
  answers_cut f q = rw (sym f) q

  pub answers_first : (b : List ℕ) (steps : ℕ) → first b steps ≡ found mode g budget → r ≡ smaller mode g (certificate_of g b) steps → r ≡ answer_for mode g budget (found mode g budget)
  unfolding answer_for
  answers_first b steps f q = rw (sym f) q

module _ (mode : ℕ) (g : Graph) (budget : ℕ) (b : List ℕ) (steps : ℕ) (f : first b steps ≡ found mode g budget) where
  pub found_begins : Beginning g.order (block_of g.starts) b
  unfolding Judging.found
  found_begins = (found_reached g.order (block_of g.starts) (judged mode g) budget b steps (sym f)).0.beginning

  pub found_won : judged mode g b ≡ Search.won
  unfolding Judging.found
  found_won = (found_reached g.order (block_of g.starts) (judged mode g) budget b steps (sym f)).1

-- ---- the buffer

-- a verdict other than smaller leaves it
pub none_buffer : (mode : ℕ) (g : Graph) (r : Judged) (steps : ℕ) (buffer : List ℤ) → r ≡ without (Nothing steps) → buffer ≡ at_start r.verdict (clause_of mode g r.arrangement) buffer
unfolding without at_start
none_buffer mode g r steps buffer e = rw e

pub cut_buffer : (mode : ℕ) (g : Graph) (r : Judged) (steps : ℕ) (buffer : List ℤ) → r ≡ without (Cut steps) → buffer ≡ at_start r.verdict (clause_of mode g r.arrangement) buffer
unfolding without at_start
cut_buffer mode g r steps buffer e = rw e

pub refused_buffer : (mode : ℕ) (g : Graph) (r : Judged) (number place : ℕ) (buffer : List ℤ) → r ≡ without (Refused number place) → buffer ≡ at_start r.verdict (clause_of mode g r.arrangement) buffer
unfolding without at_start
refused_buffer mode g r number place buffer e = rw e

-- smaller writes the clause
pub smaller_buffer : (mode : ℕ) (g : Graph) (p : List ℕ) (steps : ℕ) (r : Judged) (before after : List ℤ) → r ≡ smaller mode g p steps → after ≡ clause_of mode g p ++ drop (length (clause_of mode g p)) before
    → after ≡ at_start r.verdict (clause_of mode g r.arrangement) before
unfolding smaller at_start
smaller_buffer mode g p steps r before after e h = rw e h

-- ---- the refusals

-- the test of the mode
pub mode_rows : (mode : ℕ) → mode ≡ 1 → eqb mode 1 ≡ is_mode mode
unfolding is_mode either
mode_rows mode e = rw (eq-eqb mode 1 e)

pub mode_columns : (mode : ℕ) → (mode ≡ 1 → ⊥) → eqb mode 2 ≡ is_mode mode
unfolding is_mode either
mode_columns mode n = rw (ne_eqb mode 1 n)

module _ (mode : ℕ) (g : Graph) (budget : ℕ) (buffer : List ℤ) where
  -- the buffer goes by the answer
  by_answer : (r : Judged) (after : List ℤ) → r ≡ judge_answer mode g budget (length buffer) → after ≡ at_start r.verdict (clause_of mode g r.arrangement) buffer
      → (r ≡ judge_answer mode g budget (length buffer)) × (after ≡ judge_buffer mode g budget buffer)
  unfolding judge_buffer
  by_answer r after q h = (q, h ∙ ap (λ (x : Judged). at_start x.verdict (clause_of mode g x.arrangement) buffer) q)

  pub answers_unknown : (r : Judged) → r ≡ without (Refused 16 0) → is_mode mode ≡ false → (r ≡ judge_answer mode g budget (length buffer)) × (buffer ≡ judge_buffer mode g budget buffer)
  unfolding judge_answer
  answers_unknown r i e = by_answer r buffer (refused false (is_mode mode) _ _ _ (sym e) refl i) (refused_buffer mode g _ 16 0 buffer i)

  module _ (m : is_mode mode ≡ true) where
    pub answers_malformed : (why : Refusal) (r : Judged) → why ≡ Malformed → r ≡ without (Refused (number_of why) (place_of why)) → well_formed g ≡ false → (r ≡ judge_answer mode g budget (length buffer)) × (buffer ≡ judge_buffer mode g budget buffer)
    unfolding judge_answer
    answers_malformed why r is i e =
        let told : r ≡ without (Refused 8 0) = rw is at i in
        by_answer r buffer (passed true (is_mode mode) _ _ _ (sym m) refl (refused false (well_formed g) _ _ _ (sym e) refl told)) (refused_buffer mode g _ 8 0 buffer told)

    module _ (w : well_formed g ≡ true) where
      pub answers_cramped : (why : Refusal) (r : Judged) → why ≡ LiteralRoom → r ≡ without (Refused (number_of why) (place_of why)) → length buffer < pair_count g.order → (r ≡ judge_answer mode g budget (length buffer)) × (buffer ≡ judge_buffer mode g budget buffer)
      unfolding judge_answer
      answers_cramped why r is i k =
          let told : r ≡ without (Refused 5 0) = rw is at i in
          by_answer r buffer
          (passed true (is_mode mode) _ _ _ (sym m) refl
          (passed true (well_formed g) _ _ _ (sym w) refl (refused false (leb (pair_count g.order) (length buffer)) _ _ _ (sym (lt-leb (pair_count g.order) (length buffer) k)) refl told)))
          (refused_buffer mode g _ 5 0 buffer told)

      pub answers_judged : (r : Judged) (after : List ℤ) → pair_count g.order ≤ length buffer → r ≡ answer_for mode g budget (found mode g budget) → after ≡ at_start r.verdict (clause_of mode g r.arrangement) buffer
          → (r ≡ judge_answer mode g budget (length buffer)) × (after ≡ judge_buffer mode g budget buffer)
      unfolding judge_answer
      answers_judged r after k q z =
          by_answer r after
          (passed true (is_mode mode) r _ _ (sym m) refl
          (passed true (well_formed g) r _ _ (sym w) refl (passed true (leb (pair_count g.order) (length buffer)) r _ _ (sym (le-leb (pair_count g.order) (length buffer) k)) refl q)))
          z

-- the places after n of a path that began as zeros
zeros_after : (m n : ℕ) → drop {A = ℕ} n (replicate m 0) ≡ replicate (m - n) 0
zeros_after zero zero = refl
zeros_after zero (suc n) = let e : 0 - suc n ≡ 0 = omega arith in rw e
zeros_after (suc m) zero = let e : suc m - 0 ≡ suc m = omega arith in rw e
zeros_after (suc m) (suc n) = let e : suc m - suc n ≡ m - n = omega arith in zeros_after m n ∙ rw e

pub still_zeros : (n : ℕ) (path : List ℕ) → drop n path ≡ drop n (replicate 32 0) → drop n path ≡ replicate (32 - n) 0
still_zeros n path e = e ∙ zeros_after 32 n
