use borrow.Author.Rules.{rules}
use Rattle.turns.proofs.NextLaws.{along_next, row_next, rows_end}
use Rattle.turns.proofs.next.next_by_rows.Goals as goal

pub returns-then-column-n : goal.returns-then-column-n
returns-then-column-n c = (search (along_next, rules), search rules)

pub returns-then-row-n : goal.returns-then-row-n
returns-then-row-n c = (search (row_next, rules), search rules)

pub returns : goal.returns
returns c = (search (rows_end, rules), search rules)
