use borrow.Author.Rules.{rules}
use Rattle.stops.proofs.CodeStops.{marks_are}
use Rattle.stops.proofs.stops.marks_at.Goals as goal

pub returns : goal.returns
returns c = search (marks_are, rules)
