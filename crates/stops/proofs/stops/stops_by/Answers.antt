use borrow.Author.Rules.{rules}
use Rattle.stops.proofs.CodeStops.{stops_edge, stops_gap}
use Rattle.stops.proofs.stops.stops_by.Goals as goal

pub returns-then-one-eq1 : goal.returns-then-one-eq1
returns-then-one-eq1 c = stops_edge _ _ _ _ _ c.if-one-eq1.true c.without.ensures

pub returns : goal.returns
returns c = search (stops_gap, rules)
