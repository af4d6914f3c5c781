use Prim.Native.Nat.{◌-◌, ◌≤◌}
use Rattle.stops.specs.Stops.{Made}
use Rattle.stops.proofs.stops.first_stops.Given as goal

abbrev pub invariant-loop-i : goal.invariant-loop-i
invariant-loop-i l = (1 ≤ l.i) × Made l.rows.edges.now l.rows.unknowns.now l.used l.u l.i l.stops
