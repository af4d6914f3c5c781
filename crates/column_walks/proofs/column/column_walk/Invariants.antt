use Prim.Native.Nat.{◌-◌, ◌≤◌}
use mathlib.Core.Path.{◌≡◌}
use Rattle.pairs.specs.Columns.{down_column}
use Rattle.turns.specs.Turns.{walk_code}
use Rattle.column_walks.specs.Columns.{turn_in_column}
use Rattle.column_walks.proofs.column.column_walk.Given as goal

abbrev pub invariant-loop-i : goal.invariant-loop-i
invariant-loop-i l = (1 ≤ l.i) × (l.i ≤ l.k) × (walk_code (turn_in_column l.path.rows.edges.now l.path.rows.unknowns.now l.path.vertices.now l.path.places.now l.used) (down_column l.k (l.i - 1)) ≡ 0)
