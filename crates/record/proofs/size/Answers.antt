use borrow.Author.Rules.{rules}
use Rattle.laws.specs.TestLaws.{refused, passed}
use Rattle.pairs.proofs.VertexLaws.{order_in_range}
use Rattle.record.specs.Answers.{size_answer}
use Rattle.record.proofs.size.Goals as goal

pub byte_count-requires : goal.byte_count-requires
byte_count-requires c = search (order_in_range, rules)

pub returns-then-order_fits : goal.returns-then-order_fits
unfolding size_answer
returns-then-order_fits c = search (passed, rules)

pub returns-else-order_fits : goal.returns-else-order_fits
unfolding size_answer
returns-else-order_fits c = search (refused, rules)
