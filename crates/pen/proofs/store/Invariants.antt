use mathlib.Core.Path.{◌≡◌}
use Rattle.pen.specs.Stored.{stored}
use Rattle.pen.proofs.store.Given as goal

-- After t turns t bytes are stored.
abbrev pub invariant-loop-t : goal.invariant-loop-t
invariant-loop-t l = l.out ≡ stored l.initial.out l.at l.word l.t
