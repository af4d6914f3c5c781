use Prim.Native.Nat.{◌*◌}
use mathlib.Core.Path.{◌≡◌}
use Rattle.words.specs.Placed.{placed}
use Rattle.words.specs.Stage.{staged}
use Rattle.words.proofs.turned.stage.Given as goal

abbrev pub invariant-loop-i : goal.invariant-loop-i
invariant-loop-i l = (l.es ≡ placed (staged l.s l.m l.c l.rows.edges.now) (2 * l.i)) × (l.us ≡ placed (staged l.s l.m l.c l.rows.unknowns.now) (2 * l.i))
