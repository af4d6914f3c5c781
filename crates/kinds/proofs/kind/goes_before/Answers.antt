use borrow.Author.Rules.{rules}
use Rattle.kinds.proofs.KindLaws.{before_rising, before_falling}
use Rattle.kinds.proofs.kind.goes_before.Goals as goal

pub returns-then-u-v : goal.returns-then-u-v
returns-then-u-v c = search (before_rising, rules)

pub returns : goal.returns
returns c = search (before_falling, rules)
