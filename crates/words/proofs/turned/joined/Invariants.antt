use mathlib.Core.Path.{◌≡◌}
use Rattle.words.specs.Placed.{placed}
use Rattle.words.specs.Stage.{in_both_halves}
use Rattle.words.proofs.turned.joined.Given as goal

-- After i turns the first i rows are there, and zeros.
abbrev pub invariant-loop-i : goal.invariant-loop-i
invariant-loop-i l = (l.out ≡ placed (in_both_halves l.rows) l.i)
