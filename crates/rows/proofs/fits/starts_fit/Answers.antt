use borrow.Author.Rules.{rules}
use Rattle.rows.proofs.CodeFits.{starts_first, starts_none}
use Rattle.rows.proofs.fits.starts_fit.Goals as goal

pub returns-then-starts-eq1 : goal.returns-then-starts-eq1
returns-then-starts-eq1 c = search (starts_first, rules)

pub returns : goal.returns
returns c = search (starts_none, rules)
