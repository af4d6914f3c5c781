use borrow.Author.Rules.{rules}
use Rattle.words.proofs.CodeWords.{shifted_one, shifted_limit}
use Rattle.words.proofs.limit_of.Goals as goal

pub returns : goal.returns
returns c = search (shifted_one, shifted_limit, rules)
