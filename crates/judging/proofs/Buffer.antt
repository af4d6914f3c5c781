-- What judging leaves beside its verdict: zeros and the buffer unchanged, except for "smaller", where the clause stands at its start.
use Prim.Native.Nat.{ℕ, ◌≤◌}
use native.Mathlib.Omega.{arith}
use native.Mathlib.Decide.{ℕ_discrete}
use mathlib.Core.Path.{◌≡◌, refl, ap, ◌∙◌}
use mathlib.Core.Logic.{◌≢◌}
use mathlib.Core.List.{List, ◌++◌}
use lib.IntN.{ℤ}
use lib.ListN.{length, drop, replicate, length-append, length-drop}
use Rattle.walk.proofs.Rising.{clause_length}
use Rattle.schemes.specs.Judging.{written_by}
use Rattle.plain.specs.Plain.{same_pair}
use Rattle.graph.specs.declared.Graph.{Graph}
use Rattle.pairs.specs.Pairs.{pairs, pair_count}
use Rattle.pairs.proofs.PairLaws.{pairs_length}
use Rattle.judging.specs.declared.Verdict.{Verdict}
use Rattle.judging.specs.declared.Verdict.TheVariants.{Smaller, Nothing, Cut, Refused}
use Rattle.judging.specs.declared.Judged.{Judged}
use Rattle.judging.specs.Judging.{needed_of, clause_of}
use Rattle.judging.specs.Answer.{told, without, judge_answer, at_start, judge_buffer}
use Rattle.judging.specs.InWords.{InWords, unknown_mode, malformed, cramped, cut_off, none_smaller, found_smaller}
use Rattle.judging.proofs.Exact.{judged_in_words}

-- a clause has at most n(n - 1)/2 literals
pub clause_fits : (mode : ℕ) (g : Graph) (p : List ℕ) → length (clause_of mode g p) ≤ pair_count g.order
unfolding written_by
clause_fits mode g p = rw (← pairs_length g.order) (clause_length same_pair (needed_of mode g p) (pairs g.order))

-- except for "smaller", the arrangement is zero and no literal is written
pub zeros_beside : (mode : ℕ) (g : Graph) (budget room : ℕ) → (told (judge_answer mode g budget room).verdict).kind ≢ 1
    → ((judge_answer mode g budget room).arrangement ≡ replicate 32 0) × ((judge_answer mode g budget room).literals ≡ 0)
unfolding told without
zeros_beside mode g budget room = at (judged_in_words mode g budget room)
  where
    at : {a : Judged} → InWords mode g budget room a → (told a.verdict).kind ≢ 1 → (a.arrangement ≡ replicate 32 0) × (a.literals ≡ 0)
    at (unknown_mode no_mode) ne = (refl, refl)
    at (malformed m no_graph_lem) ne = (refl, refl)
    at (cramped m w h) ne = (refl, refl)
    at (cut_off t l) ne = (refl, refl)
    at (none_smaller t l nowhere) ne = (refl, refl)
    at (found_smaller t l f) ne = absurd (ne refl)

-- for "smaller" the count is that of the clause's literals
pub literals_counted : (mode : ℕ) (g : Graph) (budget room : ℕ) → (told (judge_answer mode g budget room).verdict).kind ≡ 1
    → (judge_answer mode g budget room).literals ≡ length (clause_of mode g (judge_answer mode g budget room).arrangement)
unfolding told without
literals_counted mode g budget room = at (judged_in_words mode g budget room)
  where
    at : {a : Judged} → InWords mode g budget room a → (told a.verdict).kind ≡ 1 → a.literals ≡ length (clause_of mode g a.arrangement)
    at (unknown_mode no_mode) e = absurd (omega arith)
    at (malformed m no_graph_lem) e = absurd (omega arith)
    at (cramped m w h) e = absurd (omega arith)
    at (cut_off t l) e = absurd (omega arith)
    at (none_smaller t l nowhere) e = absurd (omega arith)
    at (found_smaller t l f) e = refl

-- for which the buffer has room
smaller_room : {mode : ℕ} {g : Graph} {budget room : ℕ} {a : Judged} → InWords mode g budget room a → (told a.verdict).kind ≡ 1 → pair_count g.order ≤ room
unfolding told without
smaller_room (unknown_mode no_mode) e = absurd (omega arith)
smaller_room (malformed m no_graph_lem) e = absurd (omega arith)
smaller_room (cramped m w h) e = absurd (omega arith)
smaller_room (cut_off t l) e = t.enough
smaller_room (none_smaller t l nowhere) e = t.enough
smaller_room (found_smaller t l f) e = t.enough

-- where the code is that of "smaller", the literals stand at the start
start_smaller : (v : Verdict) (lits buffer : List ℤ) → (told v).kind ≡ 1 → at_start v lits buffer ≡ lits ++ drop (length lits) buffer
unfolding told at_start
start_smaller (Smaller row column steps) lits buffer e = refl
start_smaller (Nothing steps) lits buffer e = absurd (omega arith)
start_smaller (Cut steps) lits buffer e = absurd (omega arith)
start_smaller (Refused number place) lits buffer e = absurd (omega arith)

-- elsewhere nothing is changed
start_else : (v : Verdict) (lits buffer : List ℤ) → (told v).kind ≢ 1 → at_start v lits buffer ≡ buffer
unfolding told at_start
start_else (Smaller row column steps) lits buffer ne = absurd (ne refl)
start_else (Nothing steps) lits buffer ne = refl
start_else (Cut steps) lits buffer ne = refl
start_else (Refused number place) lits buffer ne = refl

module _ (mode : ℕ) (g : Graph) (budget : ℕ) (buffer : List ℤ) where
  abbrev answer : Judged
  answer = judge_answer mode g budget (length buffer)

  -- and the buffer is as it was
  pub buffer_unchanged : (told (judge_answer mode g budget (length buffer)).verdict).kind ≢ 1 → judge_buffer mode g budget buffer ≡ buffer
  unfolding judge_buffer
  buffer_unchanged ne = start_else answer.verdict (clause_of mode g answer.arrangement) buffer ne

  -- for "smaller" it holds the clause, and after it what it held
  pub buffer_written : (told (judge_answer mode g budget (length buffer)).verdict).kind ≡ 1
      → judge_buffer mode g budget buffer ≡ clause_of mode g (judge_answer mode g budget (length buffer)).arrangement ++ drop (length (clause_of mode g (judge_answer mode g budget (length buffer)).arrangement)) buffer
  unfolding judge_buffer
  buffer_written e = start_smaller answer.verdict (clause_of mode g answer.arrangement) buffer e

  -- its length never changes
  pub buffer_length : length (judge_buffer mode g budget buffer) ≡ length buffer
  buffer_length = go (ℕ_discrete (told answer.verdict).kind 1)
    where
      go : Dec ((told answer.verdict).kind ≡ 1) → length (judge_buffer mode g budget buffer) ≡ length buffer
      go (no ne) = ap length (buffer_unchanged ne)
      go (yes e) =
          let lits : List ℤ = clause_of mode g answer.arrangement in
          ap length (buffer_written e) ∙ length-append lits (drop (length lits) buffer)
          ∙ omega (arith, length-drop (length lits) buffer, clause_fits mode g answer.arrangement, smaller_room (judged_in_words mode g budget (length buffer)) e)
