use borrow.Author.Rules.{rules}
use Rattle.kinds.proofs.ReachedLaws.{firsts_in_columns, firsts_in_rows}
use Rattle.kinds.proofs.columns.firsts.Goals as goal

pub returns-then-mode-eq2 : goal.returns-then-mode-eq2
returns-then-mode-eq2 c = search (firsts_in_columns, rules)

pub returns : goal.returns
returns c = search (firsts_in_rows, rules)
