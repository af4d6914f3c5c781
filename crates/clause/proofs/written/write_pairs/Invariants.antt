use Prim.Native.Nat.{◌-◌}
use Rattle.pairs.specs.Pairs.{pair}
use Rattle.plain.specs.Before.{before_in}
use Rattle.kinds.specs.Kinds.{kind_at}
use Rattle.clause.proofs.Writing.{Rows}
use Rattle.clause.proofs.written.write_pairs.Given as goal

abbrev pub invariant-loop-i : goal.invariant-loop-i
invariant-loop-i l = Rows (kind_at (before_in l.win.mode) l.win.path.rows.edges.now l.win.path.rows.unknowns.now l.win.path.places.now (pair l.win.at.row l.win.at.column) l.without.pair l.without.image) l.win.order l.initial.literals l.literals l.i l.count
