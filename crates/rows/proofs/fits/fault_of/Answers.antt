use Rattle.rows.proofs.CodeStanding.{fault_is}
use borrow.Author.Rules.{rules}
use Rattle.rows.proofs.fits.fault_of.Goals as goal

pub returns : goal.returns
returns c = search (fault_is, rules)
