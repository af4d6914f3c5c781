use borrow.Author.Rules.{rules}
use Rattle.kinds.proofs.ReachedLaws.{firsts_up, firsts_before}
use Rattle.kinds.proofs.columns.firsts_by_columns.Goals as goal

pub returns-then-i-row : goal.returns-then-i-row
returns-then-i-row c = search (firsts_up, rules)

pub returns : goal.returns
returns c = search (firsts_before, rules)
