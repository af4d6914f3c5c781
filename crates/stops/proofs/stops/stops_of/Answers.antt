use borrow.Author.Rules.{rules}
use Rattle.stops.proofs.CodeStops.{stops_of_words}
use Rattle.stops.proofs.stops.stops_of.Goals as goal

pub returns : goal.returns
returns c = search (stops_of_words, rules)
