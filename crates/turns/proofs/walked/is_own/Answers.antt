use borrow.Author.Rules.{rules}
use Rattle.turns.proofs.CodeTurns.{own_rising, own_not_rising, own_falling, own_not_falling}
use Rattle.turns.proofs.walked.is_own.Goals as goal

pub returns-then-u-i : goal.returns-then-u-i
returns-then-u-i c = search (own_rising, rules)

pub returns-then-u-v : goal.returns-then-u-v
returns-then-u-v c = search (own_not_rising, rules)

pub returns-then-v-i : goal.returns-then-v-i
returns-then-v-i c = search (own_falling, rules)

pub returns : goal.returns
returns c = search (own_not_falling, rules)
