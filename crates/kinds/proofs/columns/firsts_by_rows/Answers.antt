use borrow.Author.Rules.{rules}
use Rattle.kinds.proofs.ReachedLaws.{firsts_all, firsts_some, firsts_none}
use Rattle.kinds.proofs.columns.firsts_by_rows.Goals as goal

pub returns-then-i-row : goal.returns-then-i-row
returns-then-i-row c = search (firsts_all, rules)

pub returns-then-i-row-2 : goal.returns-then-i-row-2
returns-then-i-row-2 c = search (firsts_some, rules)

pub returns : goal.returns
returns c = search (firsts_none, rules)
