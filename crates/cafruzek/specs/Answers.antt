-- The full answer of each function that judges, and what the lent buffers hold afterwards.
use Rattle.std.specs.Prelude.{ℕ, List, ℤ, Result, Ok, Err}
use Rattle.refusal.specs.declared.Refusal.{Refusal}
use Rattle.refusal.specs.Numbers.{number_of, place_of}
use Rattle.graph.specs.declared.Graph.{Graph}
use Rattle.record.specs.Answers.{read_answer}
use Rattle.judging.specs.declared.Verdict.TheVariants.{Refused}
use Rattle.judging.specs.declared.Judged.{Judged}
use Rattle.judging.specs.Answer.{without, judge_answer, judge_buffer}

-- judging the graph that was read in a mode; a refused reading is the answer, before the mode is looked at
unfoldable pub judge_read : (mode : ℕ) → Result Graph Refusal → ℕ → ℕ → Judged
judge_read mode (Ok g) budget room = judge_answer mode g budget room
judge_read mode (Err e) budget room = without (Refused (number_of e) (place_of e))

-- what the buffer of literals holds afterwards
unfoldable pub judge_read_buffer : (mode : ℕ) → Result Graph Refusal → ℕ → List ℤ → List ℤ
judge_read_buffer mode (Ok g) budget buffer = judge_buffer mode g budget buffer
judge_read_buffer mode (Err e) budget buffer = buffer

-- the same of the record at the start of the bytes
abbrev pub judge_record : (mode : ℕ) → List ℕ → ℕ → ℕ → Judged
judge_record mode s budget room = judge_read mode (read_answer s) budget room

abbrev pub judge_record_buffer : (mode : ℕ) → List ℕ → ℕ → List ℤ → List ℤ
judge_record_buffer mode s budget buffer = judge_read_buffer mode (read_answer s) budget buffer
