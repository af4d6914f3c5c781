use mathlib.Core.Path.{◌≡◌}
use mathlib.Core.Bool.{true}
use Rattle.laws.specs.UpTo.{all_up_to}
use Rattle.arrangements.specs.Arrangement.{differs}
use Rattle.arrangements.proofs.reordering.is_new.Given as goal

abbrev pub invariant-loop-j : goal.invariant-loop-j
invariant-loop-j l = (all_up_to (differs l.p l.i) l.j ≡ true)
