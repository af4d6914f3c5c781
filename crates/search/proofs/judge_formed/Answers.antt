use borrow.Author.Rules.{rules}
use Rattle.graph.specs.Lent.{lent}
use Rattle.search.proofs.CodeJudge.{answers_unknown}
use Rattle.search.proofs.judge_formed.Goals as goal

pub returns : goal.returns
returns c = answers_unknown _ (lent c.args.formed.graph) _ c.args.literals.now _ c.refused.ensures (search rules)
