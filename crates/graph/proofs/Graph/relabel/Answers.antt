use borrow.Author.Rules.{rules}
use Rattle.laws.specs.TestLaws.{refused, passed}
use Rattle.graph.specs.Answers.{relabel_answer}
use Rattle.graph.proofs.CodeAnswers.{order_high, permitted_reorders, relabelled_is}
use Rattle.graph.proofs.Graph.relabel.Goals as goal

pub returns-in_err-formed : goal.returns-in_err-formed
unfolding relabel_answer
returns-in_err-formed c = search (refused, rules)

pub check_permitted-requires : goal.check_permitted-requires
check_permitted-requires c = search (order_high, rules)

pub returns-in_err-check_permitted : goal.returns-in_err-check_permitted
unfolding relabel_answer
returns-in_err-check_permitted c = search (refused, passed, rules)

pub moved_rows-requires : goal.moved_rows-requires
moved_rows-requires c = search (order_high, permitted_reorders, rules)

pub moved_rows-requires-2 : goal.moved_rows-requires-2
moved_rows-requires-2 c = search (order_high, permitted_reorders, rules)

pub returns : goal.returns
unfolding relabel_answer
returns c = search (passed, relabelled_is, rules)
