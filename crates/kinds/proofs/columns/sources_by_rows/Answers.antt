use borrow.Author.Rules.{rules}
use Rattle.kinds.proofs.ReachedLaws.{sources_all, sources_up, sources_at, sources_less}
use Rattle.kinds.proofs.columns.sources_by_rows.Goals as goal

pub returns-then-u-row : goal.returns-then-u-row
returns-then-u-row c = search (sources_all, rules)

pub returns-then-u-row-2 : goal.returns-then-u-row-2
returns-then-u-row-2 c = search (sources_up, rules)

pub returns-then-u-column : goal.returns-then-u-column
returns-then-u-column c = search (sources_at, rules)

pub returns : goal.returns
returns c = search (sources_less, rules)
