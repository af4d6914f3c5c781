use Rattle.rows.proofs.CodeStanding.{faults_start, faults_turn, faults_done}
use borrow.Author.Rules.{rules}
use Rattle.rows.proofs.fits.rows_stand.Goals as goal

pub loop-i-init : goal.loop-i-init
loop-i-init c = search (faults_start, rules)

pub loop-i-preserved : goal.loop-i-preserved
loop-i-preserved c = search (faults_turn, rules)

pub returns : goal.returns
returns c = search (faults_done, rules)
