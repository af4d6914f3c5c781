use borrow.Author.Rules.{rules}
use Rattle.kinds.proofs.ColumnLaws.{after_fits, columns_ahead}
use Rattle.kinds.proofs.columns.columns_of.Goals as goal

pub returns : goal.returns
returns c = (search (after_fits, rules), search columns_ahead)
