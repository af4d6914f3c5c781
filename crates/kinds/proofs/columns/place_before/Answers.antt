use borrow.Author.Rules.{rules}
use Rattle.kinds.proofs.PlaceLaws.{place_before_column, place_before_row}
use Rattle.kinds.proofs.columns.place_before.Goals as goal

pub returns-then-mode-eq2 : goal.returns-then-mode-eq2
returns-then-mode-eq2 c = search (place_before_column, rules)

pub returns : goal.returns
returns c = search (place_before_row, rules)
