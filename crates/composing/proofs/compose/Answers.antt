use borrow.Author.Rules.{rules}
use Rattle.laws.specs.TestLaws.{refused, passed, both_hold, first_fails, second_fails}
use Rattle.pairs.proofs.VertexLaws.{order_most}
use Rattle.composing.specs.Answers.{compose_answer}
use Rattle.composing.proofs.compose.Goals as goal

pub returns-in_err-check_order : goal.returns-in_err-check_order
unfolding compose_answer
returns-in_err-check_order c = search (refused, rules)

pub returns-in_err-check_reordering : goal.returns-in_err-check_reordering
unfolding compose_answer
returns-in_err-check_reordering c = search (refused, passed, first_fails, rules)

pub returns-in_err-check_reordering-2 : goal.returns-in_err-check_reordering-2
unfolding compose_answer
returns-in_err-check_reordering-2 c = search (refused, passed, second_fails, rules)

pub composed_of-requires : goal.composed_of-requires
composed_of-requires c = search (order_most, rules)

pub returns : goal.returns
unfolding compose_answer
returns c = search (passed, both_hold, rules)
