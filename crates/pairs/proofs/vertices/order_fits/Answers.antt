use borrow.Author.Rules.{rules}
use Rattle.pairs.proofs.VertexLaws.{order_zero, order_some}
use Rattle.pairs.proofs.vertices.order_fits.Goals as goal

pub returns-then-order-lt1 : goal.returns-then-order-lt1
returns-then-order-lt1 c = search (order_zero, rules)

pub returns : goal.returns
returns c = search (order_some, rules)
