use borrow.Author.Rules.{rules}
use Rattle.packing.specs.Packing.{fields}
use Rattle.packing.proofs.joined.Goals as goal

pub returns : goal.returns
unfolding fields
returns c = search rules
