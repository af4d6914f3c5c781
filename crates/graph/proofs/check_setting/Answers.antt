use borrow.Author.Rules.{rules}
use Rattle.laws.specs.TestLaws.{refused, passed}
use Rattle.graph.specs.Answers.{set_answer}
use Rattle.graph.proofs.CodeAnswers.{value_failed}
use Rattle.graph.proofs.check_setting.Goals as goal

pub returns-in_err-formed : goal.returns-in_err-formed
unfolding set_answer
returns-in_err-formed c = search (refused, rules)

pub returns-in_err-check_pair : goal.returns-in_err-check_pair
unfolding set_answer
returns-in_err-check_pair c = search (refused, passed, rules)

pub returns : goal.returns
unfolding set_answer
returns c = search (refused, passed, value_failed, rules)
