-- Full drawings, their permitted copies, and what a clause does to them.
use Rattle.std.specs.Prelude.{ℕ, ◌≡◌, ◌⊎◌, ◌≢◌, List, ℤ, length, take}
use Rattle.laws.specs.Each.{Each}
use Rattle.walk.specs.Clause.{FalseAt, BreaksClause}
use Rattle.graph.specs.declared.Graph.{Graph}
use Rattle.judging.specs.Order.{EarlierGraph}
use Rattle.arrangements.specs.Arrangement.{Permitted}
use Rattle.graph.specs.Graph.{relabelled}
use Rattle.pairs.specs.Pairs.{pairs}
use Rattle.graph.specs.Counts.{entry_at}
use Rattle.judging.specs.Judging.{clause_of}
use Rattle.judging.specs.Certificates.{FullGraph}
use Rattle.judging.specs.Answer.{told, judge_answer, judge_buffer}

-- ---- drawings and copies

-- the copy of h by p is permitted and strictly earlier than h
pub record EarlierCopy (mode : ℕ) (h : Graph) (p : List ℕ) : Type 0 where
  pub permitted : Permitted h.order h.starts p
  pub earlier : EarlierGraph mode (relabelled h p) h

-- no permitted copy of g is strictly earlier
abbrev pub Smallest : (mode : ℕ) → Graph → Type 0
Smallest mode g = (p : List ℕ) → ¬ EarlierCopy mode g p

-- q is permitted for h, and the copy by it is at or before every permitted copy
pub record LeastBy (mode : ℕ) (h : Graph) (q : List ℕ) : Type 0 where
  pub permitted : Permitted h.order h.starts q
  pub least : (p : List ℕ) → Permitted h.order h.starts p → (relabelled h q ≡ relabelled h p) ⊎ EarlierGraph mode (relabelled h q) (relabelled h p)

-- ---- clauses

-- every literal of p's clause for g is false in h
abbrev pub BrokenBy : (mode : ℕ) → Graph → List ℕ → Graph → Type 0
BrokenBy mode g p h = BreaksClause (pairs g.order) (clause_of mode g p) (entry_at h)

-- z is needed among these numbers: there is a full drawing of g's order and blocks in which every other one is false, and whose copy by p
-- is not earlier
pub record Needs (mode : ℕ) (g : Graph) (p : List ℕ) (numbers : List ℤ) (z : ℤ) : Type 0 where
  pub drawing : Graph
  pub full : FullGraph g.order g.starts drawing
  pub others_false : Each (λ y. y ≢ z → FalseAt (pairs g.order) (entry_at drawing) y) numbers
  pub not_earlier : ¬ EarlierGraph mode (relabelled drawing p) drawing

-- judging g says "smaller"
abbrev pub SaysSmaller : (mode : ℕ) → Graph → ℕ → List ℤ → Type 0
SaysSmaller mode g budget buffer = (told (judge_answer mode g budget (length buffer)).verdict).kind ≡ 1

-- the literals that it writes at the buffer's start
abbrev pub written : (mode : ℕ) → Graph → ℕ → List ℤ → List ℤ
written mode g budget buffer = take (judge_answer mode g budget (length buffer)).literals (judge_buffer mode g budget buffer)

-- h breaks nothing that judging in this one mode writes for a graph of its order and blocks, with any budget and any buffer
abbrev pub Survives : (mode : ℕ) → Graph → Type 0
Survives mode h =
    (g : Graph) (budget : ℕ) (buffer : List ℤ) → FullGraph g.order g.starts h → SaysSmaller mode g budget buffer
    → ¬ BreaksClause (pairs g.order) (written mode g budget buffer) (entry_at h)
