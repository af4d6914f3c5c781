use borrow.Author.Rules.{rules}
use Rattle.turns.proofs.NextLaws.{next_by_rows, next_by_columns}
use Rattle.turns.proofs.next.next_pair.Goals as goal

pub returns-then-mode-eq2 : goal.returns-then-mode-eq2
returns-then-mode-eq2 c = (search (next_by_columns, rules), search rules)

pub returns : goal.returns
returns c = (search (next_by_rows, rules), search rules)
