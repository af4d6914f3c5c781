use Rattle.numbers.proofs.Folding.{gathered_is}
use borrow.Author.Rules.{rules}
use Rattle.numbers.proofs.gathered.gathered.Goals as goal

pub returns : goal.returns
returns c = search (gathered_is, rules)
