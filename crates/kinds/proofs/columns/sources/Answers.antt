use borrow.Author.Rules.{rules}
use Rattle.kinds.proofs.ReachedLaws.{sources_in_columns, sources_in_rows}
use Rattle.kinds.proofs.columns.sources.Goals as goal

pub returns-then-mode-eq2 : goal.returns-then-mode-eq2
returns-then-mode-eq2 c = search (sources_in_columns, rules)

pub returns : goal.returns
returns c = search (sources_in_rows, rules)
