use Prim.Native.Nat.{◌≤◌}
use mathlib.Core.Path.{◌≡◌}
use Rattle.laws.specs.UpTo.{sum_up_to}
use Rattle.rows.specs.Rows.{start_at}
use Rattle.arrangements.proofs.permitted.block_of.Given as goal

abbrev pub invariant-loop-i : goal.invariant-loop-i
invariant-loop-i l = (l.blocks ≡ sum_up_to (start_at l.starts) l.i) × (l.blocks ≤ l.i)
