use borrow.Author.Rules.{rules}
use Rattle.graph.specs.Lent.{lent}
use Rattle.search.proofs.CodeJudge.{answers_unknown, answers_malformed}
use Rattle.search.proofs.judge_rows.Goals as goal

pub returns-then-not-is_mode : goal.returns-then-not-is_mode
returns-then-not-is_mode c = answers_unknown _ (lent c.args.graph) _ c.args.literals.now _ c.refused.ensures (search rules)

pub returns-in-Err : goal.returns-in-Err
returns-in-Err c =
    answers_malformed _ (lent c.args.graph) _ c.args.literals.now (search rules) c.in-Err.why _ (search rules) c.refused-in-Err.ensures (search rules)
