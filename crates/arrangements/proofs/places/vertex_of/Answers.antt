use borrow.Author.Rules.{rules}
use Rattle.arrangements.proofs.CodeTests.{vertex_low, vertex_high}
use Rattle.arrangements.proofs.places.vertex_of.Goals as goal

pub returns : goal.returns
returns c = search (vertex_low, vertex_high, rules)
