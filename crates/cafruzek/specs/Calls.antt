-- What a call of one of the two functions that judge answers and leaves in the caller's memory.
use Rattle.std.specs.Prelude.{ℕ, ◌≡◌, List, ℤ, length, take, Ok}
use Rattle.graph.specs.declared.Graph.{Graph}
use Rattle.record.specs.Answers.{read_answer}
use Rattle.judging.specs.Answer.{judge_answer, judge_buffer}
use Rattle.packing.specs.Packing.{literals_in, packed}
use Rattle.packing.specs.Telling.{arranged_after}
use Rattle.cafruzek.specs.Answers.{judge_record, judge_record_buffer}

-- the number that is answered, and the literals and the arrangement afterwards
pub record Outcome : Type 0 where
  pub number : ℕ
  pub literals : List ℤ
  pub arrangement : List ℕ

-- of cafruzek_judge_rows, for the graph value that the rows make
abbrev pub judged_rows : (mode : ℕ) → Graph → ℕ → List ℤ → List ℕ → Outcome
judged_rows mode g budget buffer lent =
    let a = judge_answer mode g budget (length buffer) in
    record { number = packed a; literals = judge_buffer mode g budget buffer; arrangement = arranged_after a lent }

-- of cafruzek_judge_record
abbrev pub judged_record : (mode : ℕ) → List ℕ → ℕ → List ℤ → List ℕ → Outcome
judged_record mode s budget buffer lent =
    let a = judge_record mode s budget (length buffer) in
    record { number = packed a; literals = judge_record_buffer mode s budget buffer; arrangement = arranged_after a lent }

-- a call of either that judges the graph value g in the mode: by its rows, or by a record that is read as g
pub data Judges (mode : ℕ) (g : Graph) (budget : ℕ) (buffer : List ℤ) (lent : List ℕ) : Outcome → Type 0 where
  by_rows : Judges mode g budget buffer lent (judged_rows mode g budget buffer lent)
  by_record : (s : List ℕ) → read_answer s ≡ Ok g → Judges mode g budget buffer lent (judged_record mode s budget buffer lent)

-- the clause that it wrote: as many literals as the number tells, from the start of the buffer
abbrev pub clause_in : Outcome → List ℤ
clause_in o = take (literals_in o.number) o.literals
