use borrow.Author.Rules.{rules}
use Rattle.words.proofs.CodeStages.{upper_is}
use Rattle.words.proofs.turned.upper_of.Goals as goal

pub returns : goal.returns
returns c = search (upper_is, rules)
