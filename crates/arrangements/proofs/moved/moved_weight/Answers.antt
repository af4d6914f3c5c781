use borrow.Author.Rules.{rules}
use Rattle.arrangements.proofs.CodePlaces.{moved_weight}
use Rattle.arrangements.proofs.moved.moved_weight.Goals as goal

pub returns : goal.returns
returns c = search (moved_weight, rules)
