use borrow.Author.Rules.{rules}
use Rattle.turns.proofs.Ones.{power_some}
use Rattle.stops.proofs.CodeStops.{passed_first, passed_later, passed_none}
use Rattle.stops.proofs.stops.passed_mask.Goals as goal

pub overflow_sub-result : goal.overflow_sub-result
overflow_sub-result c = search (power_some, rules)

pub returns-then-u-eq1 : goal.returns-then-u-eq1
returns-then-u-eq1 c = search (passed_first, rules)

pub returns-then-u-k : goal.returns-then-u-k
returns-then-u-k c = search (passed_later, rules)

pub returns : goal.returns
returns c = search (passed_none, rules)
