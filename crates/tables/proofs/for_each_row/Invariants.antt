use Rattle.std.proofs.Common.{length, ◌-◌}
use Rattle.std.specs.Fn.{FnReturnsAt}
use Rattle.tables.proofs.Tables.{RowsLeft}
use Rattle.tables.proofs.for_each_row.Given as goal

abbrev pub invariant-loop-case : goal.invariant-loop-case
invariant-loop-case g l = RowsLeft (FnReturnsAt g.F.Fn l.case) l.table l.at

abbrev pub decreases-loop-case : goal.decreases-loop-case
decreases-loop-case g l = length l.table - l.at
