use borrow.Author.Rules.{rules}
use Rattle.turns.proofs.CodeTurns.{before_by_columns, before_by_rows}
use Rattle.turns.proofs.before.is_before.Goals as goal

pub returns-then-mode-eq2 : goal.returns-then-mode-eq2
returns-then-mode-eq2 c = search (before_by_columns, rules)

pub returns : goal.returns
returns c = search (before_by_rows, rules)
