use borrow.Author.Rules.{rules}
use Rattle.words.proofs.CodeStages.{lower_is}
use Rattle.words.proofs.turned.lower_of.Goals as goal

pub returns : goal.returns
returns c = search (lower_is, rules)
