-- A judgement, and what the arrangement that was lent for it holds afterwards.
use Rattle.std.specs.Prelude.{ℕ, ◌≡◌, List}
use Rattle.graph.specs.declared.Graph.{Graph}
use Rattle.judging.specs.declared.Verdict.{Verdict}
use Rattle.judging.specs.declared.Verdict.TheVariants.{Smaller, Nothing, Cut, Refused}
use Rattle.judging.specs.declared.Judged.{Judged}
use Rattle.judging.specs.Answer.{judge_answer}

-- what judging some graph value answers
pub record Judgement (a : Judged) : Type 0 where
  pub mode : ℕ
  pub graph : Graph
  pub budget : ℕ
  pub room : ℕ
  pub is_answer : a ≡ judge_answer mode graph budget room

-- the certificate where the verdict is smaller, else what it held
unfoldable pub arranged_by : Verdict → List ℕ → List ℕ → List ℕ
arranged_by (Smaller row column steps) p lent = p
arranged_by (Nothing steps) p lent = lent
arranged_by (Cut steps) p lent = lent
arranged_by (Refused number place) p lent = lent

-- what the arrangement holds after a judgement
unfoldable pub arranged_after : Judged → List ℕ → List ℕ
arranged_after a lent = arranged_by a.verdict a.arrangement lent
