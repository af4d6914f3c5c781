use Prim.Native.Nat.{◌-◌, ◌≤◌}
use mathlib.Core.Path.{◌≡◌}
use Rattle.words.specs.Placed.{placed}
use Rattle.composing.specs.Composed.{through}
use Rattle.composing.proofs.composed.composed_of.Given as goal

abbrev pub invariant-loop-i : goal.invariant-loop-i
invariant-loop-i l = (l.out ≡ placed (through l.p l.q) l.i)
