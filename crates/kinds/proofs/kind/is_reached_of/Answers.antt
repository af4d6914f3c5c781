use borrow.Author.Rules.{rules}
use Rattle.kinds.proofs.KindLaws.{reached_rising, reached_falling}
use Rattle.kinds.proofs.kind.is_reached_of.Goals as goal

pub returns-then-u-v : goal.returns-then-u-v
returns-then-u-v c = search (reached_rising, rules)

pub returns : goal.returns
returns c = search (reached_falling, rules)
