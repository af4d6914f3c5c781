use Prim.Native.Nat.{◌-◌, ◌≤◌}
use mathlib.Core.Path.{◌≡◌}
use Rattle.words.specs.Placed.{placed}
use Rattle.rows.specs.Rows.{block_of}
use Rattle.exploring.specs.Masks.{block_mask, MaskOf}
use Rattle.exploring.proofs.masks.block_masks.Given as goal

abbrev pub invariant-loop-i : goal.invariant-loop-i
invariant-loop-i l = (l.i ≤ l.n) × MaskOf l.starts l.n l.i l.mask × (l.out ≡ placed (block_mask (block_of l.starts) l.n) l.i)

abbrev pub decreases-loop-i : goal.decreases-loop-i
decreases-loop-i l = l.n - l.i
