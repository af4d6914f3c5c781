use Prim.Native.Nat.{◌-◌, ◌≤◌}
use mathlib.Core.Path.{◌≡◌}
use Rattle.pairs.specs.Pairs.{from_row}
use Rattle.plain.specs.Before.{row_before}
use Rattle.turns.specs.Turns.{turn_at, walk_code}
use Rattle.row_walks.specs.RowWords.{Later}
use Rattle.row_walks.proofs.later.later_rows.Given as goal

abbrev pub invariant-loop-i : goal.invariant-loop-i
invariant-loop-i l = (3 ≤ l.i) × Later l.n (l.i - 1) l.path.vertices.now l.later × (walk_code (turn_at row_before l.path.rows.edges.now l.path.rows.unknowns.now l.path.vertices.now l.path.places.now) (from_row l.i (l.n - l.i)) ≡ walk_code (turn_at row_before l.path.rows.edges.now l.path.rows.unknowns.now l.path.vertices.now l.path.places.now) (from_row 3 (l.n - 3)))
