use Prim.Native.Nat.{◌+◌, ◌-◌}
use mathlib.Core.Path.{◌≡◌}
use Rattle.tables.specs.Table.{hex_from}
use Rattle.tables.proofs.hex_at.Given as goal

abbrev pub invariant-loop-i : goal.invariant-loop-i
invariant-loop-i l = hex_from l.row (l.column + l.i) (l.digits - l.i) l.value ≡ hex_from l.row l.column l.digits 0
