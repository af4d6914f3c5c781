use borrow.Author.Rules.{rules}
use Rattle.row_walks.proofs.CodeRows.{counted_is}
use Rattle.row_walks.proofs.row.counted.Goals as goal

pub returns : goal.returns
returns c = search (counted_is, rules)
