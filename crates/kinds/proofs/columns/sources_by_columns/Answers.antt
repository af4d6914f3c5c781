use borrow.Author.Rules.{rules}
use Rattle.kinds.proofs.ReachedLaws.{column_sources_up, column_sources_less, column_sources_at, column_sources_none}
use Rattle.kinds.proofs.columns.sources_by_columns.Goals as goal

pub returns-then-u-row : goal.returns-then-u-row
returns-then-u-row c = search (column_sources_up, rules)

pub returns-then-u-column : goal.returns-then-u-column
returns-then-u-column c = search (column_sources_less, rules)

pub returns-then-u-column-2 : goal.returns-then-u-column-2
returns-then-u-column-2 c = search (column_sources_at, rules)

pub returns : goal.returns
returns c = search (column_sources_none, rules)
