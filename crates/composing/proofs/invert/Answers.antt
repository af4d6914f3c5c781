use borrow.Author.Rules.{rules}
use Rattle.laws.specs.TestLaws.{refused, passed}
use Rattle.pairs.proofs.VertexLaws.{order_most}
use Rattle.composing.specs.Answers.{invert_answer}
use Rattle.composing.proofs.invert.Goals as goal

pub returns-in_err-check_order : goal.returns-in_err-check_order
unfolding invert_answer
returns-in_err-check_order c = search (refused, rules)

pub returns-in_err-check_reordering : goal.returns-in_err-check_reordering
unfolding invert_answer
returns-in_err-check_reordering c = search (refused, passed, rules)

pub inverse_of-requires : goal.inverse_of-requires
inverse_of-requires c = search (order_most, rules)

pub returns : goal.returns
unfolding invert_answer
returns c = search (passed, rules)
