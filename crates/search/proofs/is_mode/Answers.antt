use borrow.Author.Rules.{rules}
use Rattle.search.proofs.CodeJudge.{mode_rows, mode_columns}
use Rattle.search.proofs.is_mode.Goals as goal

pub returns-then-mode-eq1 : goal.returns-then-mode-eq1
returns-then-mode-eq1 c = mode_rows _ c.if-mode-eq1.true

pub returns-else-mode-eq1 : goal.returns-else-mode-eq1
returns-else-mode-eq1 c = search (mode_columns, rules)
