-- Sound, exact, surviving: the promises of judging, of what a call answers and leaves in the caller's memory.
use Prim.Native.Nat.{ℕ, ◌+◌, ◌≤◌, ◌<◌, ◌^◌}
use native.Mathlib.Omega.{arith}
use mathlib.Core.Path.{◌≡◌, refl, ap, ◌∙◌}
use mathlib.Core.Logic.Iff
use mathlib.Core.Logic.{◌≢◌, ◌↔◌}
use mathlib.Core.List.{List}
use lib.IntN.{ℤ}
use lib.ListN.{length, take}
use Rattle.laws.specs.Each.{Each}
use Rattle.std.specs.Prelude.{Result, Ok, Err}
use Rattle.refusal.specs.declared.Refusal.{Refusal}
use Rattle.refusal.specs.Numbers.{refusal_told, place_told}
use Rattle.walk.specs.Clause.{BreaksClause}
use Rattle.walk.specs.Earlier.{LexLess}
use Rattle.graph.specs.declared.Graph.{Graph}
use Rattle.graph.specs.Graph.{relabelled}
use Rattle.graph.specs.WellFormed.{WellFormed}
use Rattle.judging.specs.Order.{FullyDrawn, word_in}
use Rattle.graph.specs.Counts.{entry_at}
use Rattle.pairs.specs.Pairs.{pairs}
use Rattle.record.specs.Answers.{read_answer}
use Rattle.judging.specs.declared.Judged.{Judged}
use Rattle.judging.specs.Judging.{steps_for}
use Rattle.judging.specs.Answer.{told, without, judge_answer, judge_buffer}
use Rattle.judging.specs.Certificates.{FullGraph, Certified}
use Rattle.judging.specs.InWords.{Taken}
use Rattle.judging.specs.Drawings.{EarlierCopy, Smallest, Needs, written}
use Rattle.judging.proofs.Exact.{exact_smaller, exact_none, exact_cut, exact_cut_only, not_refused, exact_steps}
use Rattle.judging.proofs.Sound.{written_sound, written_published}
use Rattle.judging.proofs.Needed.{written_needed}
use Rattle.judging.proofs.Smallest.{none_tells}
use Rattle.judging.proofs.Buffer.{buffer_unchanged}
use Rattle.packing.specs.Packing.{low_in, code_in, packed}
use Rattle.packing.specs.Telling.{arranged_by, arranged_after}
use Rattle.packing.proofs.Bounds.{Bounded, judged_bounded}
use Rattle.packing.proofs.Apart.{packed_literals, packed_refusal, packed_place, packed_steps, code_kind}
use Rattle.packing.proofs.Changed.{arrangement_unchanged, arrangement_written}
use Rattle.cafruzek.specs.Answers.{judge_read, judge_read_buffer}
use Rattle.cafruzek.specs.Calls.{Outcome, judged_rows, judged_record, Judges, by_rows, by_record, clause_in}
use Rattle.cafruzek.proofs.Bounds.{record_bounded}

-- ---- either function judges the graph alike

-- whatever a call leaves is what the call by rows leaves
as_rows : (mode : ℕ) (g : Graph) (budget : ℕ) (buffer : List ℤ) (lent : List ℕ) {o : Outcome} → Judges mode g budget buffer lent o → o ≡ judged_rows mode g budget buffer lent
unfolding judge_read judge_read_buffer
as_rows mode g budget buffer lent by_rows = refl
as_rows mode g budget buffer lent (by_record s e) = rw e

-- ---- of any call that judges g

module _ (mode : ℕ) (g : Graph) (budget : ℕ) (h : budget < 2 ^ 32) (buffer : List ℤ) (lent : List ℕ) {o : Outcome} (call : Judges mode g budget buffer lent o) where
  -- the number is that of the judgement
  number_is : o.number ≡ packed (judge_answer mode g budget (length buffer))
  number_is = ap (λ (x : Outcome). x.number) (as_rows mode g budget buffer lent call)

  -- a code below 3 is the kind of the verdict
  kind_is : (k : ℕ) → k < 3 → (code_in o.number ≡ k) ↔ ((told (judge_answer mode g budget (length buffer)).verdict).kind ≡ k)
  kind_is k l = rw number_is (code_kind budget (judge_answer mode g budget (length buffer)) (judged_bounded mode g budget (length buffer)) h k l)

  -- ---- exact

  module _ (taken : Taken mode g (length buffer)) where
    -- "cut" exactly where the budget is below the steps needed
    pub told_cut : (code_in o.number ≡ 2) ↔ (budget < steps_for mode g)
    unfolding told without
    told_cut = (
      λ e. exact_cut_only mode g budget (length buffer) taken ((kind_is 2 (omega arith)).0 e),
      λ l. (kind_is 2 (omega arith)).1 (ap (λ (a : Judged). (told a.verdict).kind) (exact_cut mode g budget (length buffer) taken l)),
    )

    module _ (reach : steps_for mode g ≤ budget) where
      -- else "smaller" exactly where there is a certificate
      pub told_smaller : (code_in o.number ≡ 1) ↔ ((p : List ℕ) × Certified mode g p)
      told_smaller = Iff.trans (kind_is 1 (omega arith)) (exact_smaller mode g budget (length buffer) taken reach)

      -- "none" exactly where there is none
      pub told_none : (code_in o.number ≡ 0) ↔ ((p : List ℕ) → ¬ Certified mode g p)
      told_none = Iff.trans (kind_is 0 (omega arith)) (exact_none mode g budget (length buffer) taken reach)

      -- and the steps are those needed
      pub told_steps : low_in o.number ≡ steps_for mode g
      told_steps =
          rw number_is
          (packed_steps budget (judge_answer mode g budget (length buffer)) (judged_bounded mode g budget (length buffer)) h
          (not_refused mode g budget (length buffer) taken) ∙ exact_steps mode g budget (length buffer) taken reach)

  -- of a fully drawn graph "none" says that no permitted renumbering of it comes earlier
  pub none_is_smallest : WellFormed g → FullyDrawn g → code_in o.number ≡ 0 → Smallest mode g
  none_is_smallest w d e = none_tells mode g w d budget (length buffer) ((kind_is 0 (omega arith)).0 e)

  -- ---- sound

  -- the clause that it wrote is what judging writes
  clause_is : clause_in o ≡ written mode g budget buffer
  clause_is =
      rw (as_rows mode g budget buffer lent call)
      (ap (λ (k : ℕ). take k (judge_buffer mode g budget buffer)) (packed_literals budget (judge_answer mode g budget (length buffer)) (judged_bounded mode g budget (length buffer)) h))

  module _ (smaller : code_in o.number ≡ 1) where
    -- the arrangement is the certificate
    arrangement_is : o.arrangement ≡ (judge_answer mode g budget (length buffer)).arrangement
    arrangement_is =
        ap (λ (x : Outcome). x.arrangement) (as_rows mode g budget buffer lent call)
        ∙ arrangement_written (judge_answer mode g budget (length buffer)) lent ((kind_is 1 (omega arith)).0 smaller)

    module _ (d : Graph) (full : FullGraph g.order g.starts d) (broken : BreaksClause (pairs g.order) (clause_in o) (entry_at d)) where
      -- every full drawing that breaks the clause in the buffer has by the arrangement in its memory a permitted copy strictly earlier
      pub broken_earlier : EarlierCopy mode d o.arrangement
      broken_earlier = rw arrangement_is (written_sound mode g budget buffer ((kind_is 1 (omega arith)).0 smaller) d full (rw clause_is at broken))

      -- in the published order too
      pub broken_published : LexLess (word_in mode (relabelled d o.arrangement)) (word_in mode d)
      broken_published = rw arrangement_is (written_published mode g budget buffer ((kind_is 1 (omega arith)).0 smaller) d full (rw clause_is at broken))

    -- so what has no permitted copy earlier survives every clause that is left in a buffer
    pub smallest_kept : (d : Graph) → FullGraph g.order g.starts d → Smallest mode d → ¬ BreaksClause (pairs g.order) (clause_in o) (entry_at d)
    smallest_kept d full least broken = least o.arrangement (broken_earlier d full broken)

    -- no literal of the clause in the buffer can be dropped
    pub told_needed : Each (Needs mode g o.arrangement (clause_in o)) (clause_in o)
    told_needed = rw (arrangement_is, clause_is) (written_needed mode g budget buffer ((kind_is 1 (omega arith)).0 smaller))

  -- ---- nothing but "smaller" changes the caller's memory

  pub else_unchanged : code_in o.number ≢ 1 → (o.literals ≡ buffer) × (o.arrangement ≡ lent)
  else_unchanged ne =
      let other : (told (judge_answer mode g budget (length buffer)).verdict).kind ≢ 1 = λ e. ne ((kind_is 1 (omega arith)).1 e) in
      rw (as_rows mode g budget buffer lent call) (buffer_unchanged mode g budget buffer other, arrangement_unchanged (judge_answer mode g budget (length buffer)) lent other)

-- ---- a record that is refused

-- its refusal is told with its place, and the caller's memory is as it was
pub refused_record : (mode : ℕ) (s : List ℕ) (budget : ℕ) → budget < 2 ^ 32 → (buffer : List ℤ) (lent : List ℕ) → refusal_told (read_answer s) ≢ 0
    → (code_in (judged_record mode s budget buffer lent).number ≡ 128 + refusal_told (read_answer s)) × (low_in (judged_record mode s budget buffer lent).number ≡ place_told (read_answer s))
    × ((judged_record mode s budget buffer lent).literals ≡ buffer) × ((judged_record mode s budget buffer lent).arrangement ≡ lent)
unfolding judge_read judge_read_buffer arranged_after arranged_by told without
refused_record mode s budget h buffer lent = go (read_answer s) (record_bounded mode s budget (length buffer))
  where
    go : (r : Result Graph Refusal) → Bounded budget (judge_read mode r budget (length buffer)) → refusal_told r ≢ 0
        → (code_in (packed (judge_read mode r budget (length buffer))) ≡ 128 + refusal_told r) × (low_in (packed (judge_read mode r budget (length buffer))) ≡ place_told r)
        × (judge_read_buffer mode r budget buffer ≡ buffer) × (arranged_after (judge_read mode r budget (length buffer)) lent ≡ lent)
    go (Ok g) b ne = absurd (ne refl)
    go (Err e) b ne =
        let a : Judged = judge_read mode (Err e) budget (length buffer) in
        (packed_refusal budget a b h refl, packed_place budget a b h refl, refl, refl)
