use Rattle.rows.proofs.CodeFits.{limit_inside, limit_past, limit_fits}
use borrow.Author.Rules.{rules}
use Rattle.rows.proofs.fits.row_limit.Goals as goal

pub overflow_cast-result : goal.overflow_cast-result
overflow_cast-result c = search (limit_fits, rules)

pub returns-then-i-order : goal.returns-then-i-order
returns-then-i-order c = search (limit_inside, rules)

pub returns : goal.returns
returns c = search (limit_past, rules)
