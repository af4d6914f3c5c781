use Rattle.rows.proofs.CodeStanding.{row_fault_is}
use borrow.Author.Rules.{rules}
use Rattle.rows.proofs.fits.row_fault.Goals as goal

pub returns : goal.returns
returns c = search (row_fault_is, rules)
