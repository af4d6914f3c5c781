-- What judging a record changes of the literals that were lent: "smaller" writes, and nothing else does.
use Prim.Native.Nat.{ℕ}
use mathlib.Core.Path.{◌≡◌, refl}
use mathlib.Core.Logic.{◌≢◌}
use mathlib.Core.List.{List}
use lib.IntN.{ℤ}
use lib.ListN.{length}
use Rattle.std.specs.Prelude.{Result, Ok, Err}
use Rattle.refusal.specs.declared.Refusal.{Refusal}
use Rattle.graph.specs.declared.Graph.{Graph}
use Rattle.record.specs.Answers.{read_answer}
use Rattle.judging.specs.Answer.{told}
use Rattle.judging.proofs.Buffer.{buffer_unchanged}
use Rattle.cafruzek.specs.Answers.{judge_read, judge_read_buffer, judge_record, judge_record_buffer}

-- without "smaller" the literals are as they were
pub record_unchanged : (mode : ℕ) (s : List ℕ) (budget : ℕ) (buffer : List ℤ) → (told (judge_record mode s budget (length buffer)).verdict).kind ≢ 1 → judge_record_buffer mode s budget buffer ≡ buffer
unfolding judge_read judge_read_buffer
record_unchanged mode s budget buffer = go (read_answer s)
  where
    go : (r : Result Graph Refusal) → (told (judge_read mode r budget (length buffer)).verdict).kind ≢ 1 → judge_read_buffer mode r budget buffer ≡ buffer
    go (Ok g) ne = buffer_unchanged mode g budget buffer ne
    go (Err e) ne = refl
