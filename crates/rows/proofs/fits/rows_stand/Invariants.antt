use mathlib.Core.Path.{◌≡◌}
use lib.Dec.{eqb}
use Rattle.laws.specs.UpTo.{all_up_to}
use Rattle.rows.specs.Standing.{row_stands}
use Rattle.rows.proofs.fits.rows_stand.Given as goal

abbrev pub invariant-loop-i : goal.invariant-loop-i
invariant-loop-i l = (eqb l.faults 0 ≡ all_up_to (row_stands l.order l.rows.edges.now l.rows.unknowns.now l.columns.edges.now l.columns.unknowns.now) l.i)
