use Prim.Native.Nat.{◌+◌, ◌-◌, ◌≤◌, ◌<◌}
use mathlib.Core.Path.{◌≡◌}
use Rattle.pairs.specs.Pairs.{along_row}
use Rattle.turns.specs.Turns.{walk_code}
use Rattle.row_walks.specs.RowWords.{turn_fixed}
use Rattle.row_walks.proofs.row.fixed_walk.Given as goal

abbrev pub invariant-loop-j : goal.invariant-loop-j
invariant-loop-j l = (l.i < l.j) × (l.j ≤ l.n + 1) × (walk_code (turn_fixed l.ones l.doubts l.path.vertices.now l.path.places.now) (along_row l.i l.j (l.n + 1 - l.j)) ≡ walk_code (turn_fixed l.ones l.doubts l.path.vertices.now l.path.places.now) (along_row l.i (l.i + 1) (l.n + 1 - (l.i + 1))))
