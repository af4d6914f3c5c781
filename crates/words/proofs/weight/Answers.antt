use borrow.Author.Rules.{rules}
use Rattle.words.proofs.CodeWords.{shifted}
use Rattle.words.proofs.weight.Goals as goal

pub returns : goal.returns
returns c = search (shifted, rules)
