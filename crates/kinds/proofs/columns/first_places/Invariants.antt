use Prim.Native.Nat.{◌-◌, ◌≤◌}
use Rattle.kinds.specs.Kinds.{FirstIn}
use Rattle.kinds.proofs.columns.first_places.Given as goal

abbrev pub invariant-loop-i : goal.invariant-loop-i
invariant-loop-i l = FirstIn l.i l.vertices l.mask
