use Prim.Native.Nat.{◌*◌, ◌≤◌}
use mathlib.Core.Path.{◌≡◌}
use Rattle.laws.specs.UpTo.{sum_up_to}
use Rattle.rows.specs.Rows.{ones_at}
use Rattle.rows.proofs.entries.ones_in.Given as goal

abbrev pub invariant-loop-i : goal.invariant-loop-i
invariant-loop-i l = (l.sum ≡ sum_up_to (ones_at l.rows) l.i) × (l.sum ≤ 32 * l.i)
