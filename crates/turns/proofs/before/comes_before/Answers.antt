use borrow.Author.Rules.{rules}
use Rattle.turns.proofs.CodeTurns.{two_before_rising, two_before_falling}
use Rattle.turns.proofs.before.comes_before.Goals as goal

pub returns-then-u-v : goal.returns-then-u-v
returns-then-u-v c = search (two_before_rising, rules)

pub returns : goal.returns
returns c = search (two_before_falling, rules)
