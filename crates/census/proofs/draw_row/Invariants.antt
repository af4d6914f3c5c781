use Prim.Native.Nat.{◌+◌, ◌-◌, ◌≤◌, ◌<◌}
use mathlib.Core.Path.{◌≡◌}
use lib.ListN.{length}
use Rattle.census.proofs.draw_row.Given as goal

abbrev pub invariant-loop-j : goal.invariant-loop-j
invariant-loop-j l = (length l.edges ≡ 32) × (l.i < l.j) × (l.j ≤ l.order + 1)

abbrev pub decreases-loop-j : goal.decreases-loop-j
decreases-loop-j l = l.order + 1 - l.j
