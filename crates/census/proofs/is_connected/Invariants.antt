use Prim.Native.Nat.{◌-◌}
use Rattle.census.proofs.is_connected.Given as goal

abbrev pub invariant-loop-i : goal.invariant-loop-i
invariant-loop-i l = Unit {0}

abbrev pub decreases-loop-i : goal.decreases-loop-i
decreases-loop-i l = l.order - l.i
