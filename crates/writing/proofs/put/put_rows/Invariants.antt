use Prim.Native.Nat.{◌+◌, ◌≤◌}
use Rattle.graph.specs.Lent.{lent}
use Rattle.record.specs.Layout.{cell}
use Rattle.writing.specs.Reached.{Reached}
use Rattle.writing.proofs.put.put_rows.Given as goal

abbrev pub invariant-loop-i : goal.invariant-loop-i
invariant-loop-i l = Reached (lent l.graph) l.initial.out l.out l.at (cell l.order l.i (l.i + 1)) × (l.initial.at.stored ≤ l.at.stored)
