use Prim.Native.Nat.{◌-◌, ◌≤◌}
use mathlib.Core.Path.{◌≡◌}
use lib.ListN.{take}
use Rattle.stops.specs.Used.{used_mask}
use Rattle.clause.proofs.certificate.used_mask.Given as goal

abbrev pub invariant-loop-i : goal.invariant-loop-i
invariant-loop-i l = (l.i ≤ l.depth) × (l.used ≡ used_mask (take l.i l.path))
