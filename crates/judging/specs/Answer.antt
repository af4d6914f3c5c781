-- The full answer of judging, and what the lent buffer holds afterwards.
use Rattle.std.specs.Prelude.{ℕ, Bool, List, ◌++◌, ℤ, length, drop, replicate, eqb, leb}
use Rattle.laws.specs.Test.{either, unless}
use Rattle.walk.specs.Walk.{Outcome, won, lost, still_open}
use Rattle.beginnings.specs.Search.{Found, cut, none, first}
use Rattle.graph.specs.declared.Graph.{Graph}
use Rattle.graph.specs.WellFormed.{well_formed}
use Rattle.pairs.specs.Pairs.{Pair, pair, pair_count}
use Rattle.judging.specs.declared.Verdict.{Verdict}
use Rattle.judging.specs.declared.Verdict.TheVariants.{Smaller, Nothing, Cut, Refused}
use Rattle.judging.specs.declared.Judged.{Judged}
use Rattle.judging.specs.Judging.{walk_all, clause_of, found, certificate_of}

-- ---- the verdicts, by number

-- what a verdict tells: its kind is 0 none, 1 smaller, 2 cut, 3 refused; a refusal has its number, 0 where nothing is refused
pub record Told : Type 0 where
  pub kind : ℕ
  pub refusal : ℕ
  pub row : ℕ
  pub column : ℕ
  pub steps : ℕ
  pub place : ℕ

unfoldable pub told : Verdict → Told
told (Smaller row column steps) = record { kind = 1; refusal = 0; row = row; column = column; steps = steps; place = 0 }
told (Nothing steps) = record { kind = 0; refusal = 0; row = 0; column = 0; steps = steps; place = 0 }
told (Cut steps) = record { kind = 2; refusal = 0; row = 0; column = 0; steps = steps; place = 0 }
told (Refused number place) = record { kind = 3; refusal = number; row = 0; column = 0; steps = 0; place = place }

-- ---- the answer

-- zeros for the arrangement, and no literal written
unfoldable pub without : Verdict → Judged
without v = record { verdict = v; arrangement = replicate 32 0; literals = 0 }

-- the winning pair, where the walk is won
unfoldable pub winning_pair : Outcome Pair → Pair
winning_pair (won k) = k
winning_pair lost = pair 0 0
winning_pair still_open = pair 0 0

-- the certificate p with its winning pair and its clause
unfoldable pub smaller : (mode : ℕ) → Graph → List ℕ → ℕ → Judged
smaller mode g p steps =
    let k = winning_pair (walk_all mode g p) in
    record { verdict = Smaller k.row k.column steps; arrangement = p; literals = length (clause_of mode g p) }

unfoldable pub answer_for : (mode : ℕ) → Graph → ℕ → Found → Judged
answer_for mode g budget cut = without (Cut budget)
answer_for mode g budget (none steps) = without (Nothing steps)
answer_for mode g budget (first b steps) = smaller mode g (certificate_of g b) steps

-- the modes: 1 by rows, 2 by columns
unfoldable pub is_mode : ℕ → Bool
is_mode mode = either (eqb mode 1) (eqb mode 2)

-- judging g in a mode within the budget, with room for so many literals
unfoldable pub judge_answer : (mode : ℕ) → Graph → ℕ → ℕ → Judged
judge_answer mode g budget room =
    unless (is_mode mode) (without (Refused 16 0))
    (unless (well_formed g) (without (Refused 8 0))
    (unless (leb (pair_count g.order) room) (without (Refused 5 0))
    (answer_for mode g budget (found mode g budget))))

-- ---- the buffer

-- the literals at the buffer's start where the verdict is smaller, else the buffer as it was
unfoldable pub at_start : Verdict → List ℤ → List ℤ → List ℤ
at_start (Smaller row column steps) lits buffer = lits ++ drop (length lits) buffer
at_start (Nothing steps) lits buffer = buffer
at_start (Cut steps) lits buffer = buffer
at_start (Refused number place) lits buffer = buffer

-- what the buffer holds after judging: the clause of the certificate at its start, and nothing after it is changed
unfoldable pub judge_buffer : (mode : ℕ) → Graph → ℕ → List ℤ → List ℤ
judge_buffer mode g budget buffer =
    let answer = judge_answer mode g budget (length buffer) in
    at_start answer.verdict (clause_of mode g answer.arrangement) buffer
