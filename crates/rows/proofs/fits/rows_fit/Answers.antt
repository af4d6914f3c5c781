use Rattle.rows.proofs.Standing.{rows_stand_is}
use borrow.Author.Rules.{rules}
use Rattle.rows.proofs.fits.rows_fit.Goals as goal

pub returns : goal.returns
returns c = search (rows_stand_is, rules)
