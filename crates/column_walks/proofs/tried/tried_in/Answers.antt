use borrow.Author.Rules.{rules}
use Rattle.column_walks.proofs.CodeColumns.{tried_by_columns, tried_by_rows}
use Rattle.column_walks.proofs.tried.tried_in.Goals as goal

pub returns-then-mode-eq2 : goal.returns-then-mode-eq2
returns-then-mode-eq2 c = search (tried_by_columns, rules)

pub returns : goal.returns
returns c = search (tried_by_rows, rules)
