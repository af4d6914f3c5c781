use Prim.Native.Nat.{◌-◌, ◌≤◌}
use Rattle.census.proofs.spread.Given as goal

abbrev pub invariant-loop-i : goal.invariant-loop-i
invariant-loop-i l = l.i ≤ l.order

abbrev pub decreases-loop-i : goal.decreases-loop-i
decreases-loop-i l = l.order - l.i
