use borrow.Author.Rules.{rules}
use Rattle.column_walks.proofs.CodeColumns.{turn_down_is}
use Rattle.column_walks.proofs.column.turn_down.Goals as goal

pub returns : goal.returns
returns c = search (turn_down_is, rules)
