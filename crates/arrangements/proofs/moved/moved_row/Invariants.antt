use Prim.Native.Nat.{◌<◌, ◌^◌}
use mathlib.Core.Path.{◌≡◌}
use Rattle.laws.specs.UpTo.{word_up_to}
use Rattle.words.specs.Placed.{row as row_of}
use Rattle.arrangements.specs.Arrangement.{at, moved_bit}
use Rattle.arrangements.proofs.moved.moved_row.Given as goal

abbrev pub invariant-loop-j : goal.invariant-loop-j
invariant-loop-j l = (l.w ≡ row_of l.rows (at l.p l.i)) × (l.row ≡ word_up_to (moved_bit l.rows l.p l.i) l.j) × (l.row < 2 ^ l.j)
