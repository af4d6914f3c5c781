use Prim.Native.Nat.{◌-◌}
use Rattle.clause.proofs.Completing.{Completing}
use Rattle.clause.proofs.certificate.complete.Given as goal

abbrev pub invariant-loop-d : goal.invariant-loop-d
invariant-loop-d l = Completing l.n l.starts l.depth l.blocks l.initial.path l.path l.used l.d
