use borrow.Author.Rules.{rules}
use Rattle.words.proofs.CodeStages.{transposed_is}
use Rattle.words.proofs.turned.transposed_of.Goals as goal

pub returns : goal.returns
returns c = search (transposed_is, rules)
