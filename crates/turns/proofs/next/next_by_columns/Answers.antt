use borrow.Author.Rules.{rules}
use Rattle.turns.proofs.NextLaws.{down_next, column_next, columns_end}
use Rattle.turns.proofs.next.next_by_columns.Goals as goal

pub returns-then-row-column : goal.returns-then-row-column
returns-then-row-column c = (search (down_next, rules), search rules)

pub returns-then-column-n : goal.returns-then-column-n
returns-then-column-n c = (search (column_next, rules), search rules)

pub returns : goal.returns
returns c = (search (columns_end, rules), search rules)
