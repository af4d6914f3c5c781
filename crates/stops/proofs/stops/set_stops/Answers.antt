use borrow.Author.Rules.{rules}
use Rattle.stops.proofs.CodeStops.{stopped_first, stopped_doubtful, stopped_kept}
use Rattle.stops.proofs.stops.set_stops.Goals as goal

pub returns-then-depth-eq0 : goal.returns-then-depth-eq0
returns-then-depth-eq0 c = (search (stopped_first, rules), search rules)

pub returns-then-doubts-next-eq1 : goal.returns-then-doubts-next-eq1
returns-then-doubts-next-eq1 c = (search (stopped_doubtful, rules), search rules)

pub returns-else-doubts-next-eq1 : goal.returns-else-doubts-next-eq1
returns-else-doubts-next-eq1 c = (search (stopped_kept, rules), search rules)
