use borrow.Author.Rules.{rules}
use Rattle.words.proofs.CodeWords.{shifted_word, shifted_some}
use Rattle.words.proofs.power.Goals as goal

pub returns : goal.returns
returns c = search (shifted_word, shifted_some, rules)
