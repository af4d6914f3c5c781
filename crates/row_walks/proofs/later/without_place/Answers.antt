use borrow.Author.Rules.{rules}
use Rattle.row_walks.proofs.AlikeRows.{without_is}
use Rattle.row_walks.proofs.later.without_place.Goals as goal

pub returns : goal.returns
returns c = search (without_is, rules)
