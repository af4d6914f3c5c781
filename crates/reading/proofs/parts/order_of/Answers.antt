use borrow.Author.Rules.{rules}
use Rattle.reading.proofs.PartLaws.{order_is}
use Rattle.reading.proofs.parts.order_of.Goals as goal

pub returns : goal.returns
returns c = search (order_is, rules)
