use borrow.Author.Rules.{rules}
use Rattle.laws.specs.TestLaws.{refused, passed}
use Rattle.graph.specs.Answers.{count_answer}
use Rattle.graph.proofs.Graph.count.Goals as goal

pub returns-in_err-formed : goal.returns-in_err-formed
unfolding count_answer
returns-in_err-formed c = search (refused, rules)

pub returns : goal.returns
unfolding count_answer
returns c = search (passed, rules)
