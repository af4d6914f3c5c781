use mathlib.Core.Path.{◌≡◌}
use Rattle.words.specs.Placed.{placed}
use Rattle.arrangements.specs.Arrangement.{moved_row}
use Rattle.arrangements.proofs.moved.moved_rows.Given as goal

abbrev pub invariant-loop-i : goal.invariant-loop-i
invariant-loop-i l = (l.out ≡ placed (moved_row l.rows l.p l.n) l.i)
