use borrow.Author.Rules.{rules}
use Rattle.stops.proofs.CodeStops.{own_first, own_later, own_none}
use Rattle.stops.proofs.stops.own_mask.Goals as goal

pub returns-then-u-eq1 : goal.returns-then-u-eq1
returns-then-u-eq1 c = search (own_first, rules)

pub returns-then-u-k : goal.returns-then-u-k
returns-then-u-k c = search (own_later, rules)

pub returns : goal.returns
returns c = search (own_none, rules)
