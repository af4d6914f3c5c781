use borrow.Author.Rules.{rules}
use Rattle.laws.specs.Test.{pick}
use Rattle.packing.specs.Packing.{place_told}
use Rattle.packing.proofs.place_told.Goals as goal

pub returns : goal.returns
unfolding place_told pick
returns c = search rules
