use borrow.Author.Rules.{rules}
use Rattle.stops.proofs.CodeStops.{one_known, one_first, one_later, one_none}
use Rattle.stops.proofs.stops.one_at.Goals as goal

pub returns-then-doubts-k-eq0 : goal.returns-then-doubts-k-eq0
returns-then-doubts-k-eq0 c = (search (one_known, rules), search rules)

pub returns-then-u-eq1 : goal.returns-then-u-eq1
returns-then-u-eq1 c = (search (one_first, rules), search rules)

pub returns-then-u-k : goal.returns-then-u-k
returns-then-u-k c = (search (one_later, rules), search rules)

pub returns : goal.returns
returns c = (search (one_none, rules), search rules)
