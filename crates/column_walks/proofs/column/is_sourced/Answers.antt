use borrow.Author.Rules.{rules}
use Rattle.column_walks.proofs.CodeColumns.{first_blank, last_blank, both_placed}
use Rattle.column_walks.proofs.column.is_sourced.Goals as goal

pub returns-then-s-eq0 : goal.returns-then-s-eq0
returns-then-s-eq0 c = search (first_blank, rules)

pub returns-then-t-eq0 : goal.returns-then-t-eq0
returns-then-t-eq0 c = search (last_blank, rules)

pub returns : goal.returns
returns c = search (both_placed, rules)
