use borrow.Author.Rules.{rules}
use Rattle.dropped.proofs.CodeDropped.{kind_rising, kind_falling}
use Rattle.dropped.proofs.kind_of_two.Goals as goal

pub returns-then-u-v : goal.returns-then-u-v
returns-then-u-v c = search (kind_rising, rules)

pub returns : goal.returns
returns c = search (kind_falling, rules)
