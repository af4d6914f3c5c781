use Prim.Native.Nat.{◌+◌, ◌-◌}
use Rattle.pairs.specs.Pairs.{pair}
use Rattle.plain.specs.Before.{before_in}
use Rattle.kinds.specs.Kinds.{kind_at}
use Rattle.clause.proofs.Writing.{Along}
use Rattle.clause.proofs.written.write_row.Given as goal

abbrev pub invariant-loop-left : goal.invariant-loop-left
invariant-loop-left l = Along (kind_at (before_in l.win.mode) l.win.path.rows.edges.now l.win.path.rows.unknowns.now l.win.path.places.now (pair l.win.at.row l.win.at.column) l.without.pair l.without.image) l.win.order l.i l.count l.initial.literals l.literals l.left l.j l.m l.written

abbrev pub decreases-loop-left : goal.decreases-loop-left
decreases-loop-left l = l.win.order + 1 - l.j
