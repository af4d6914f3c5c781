use Rattle.numbers.proofs.Folding.{fold_is}
use borrow.Author.Rules.{rules}
use Rattle.numbers.proofs.gathered.folded.Goals as goal

pub returns : goal.returns
returns c = search (fold_is, rules)
