use mathlib.Core.Path.{◌≡◌}
use mathlib.Core.Bool.{true}
use Rattle.laws.specs.UpTo.{all_up_to}
use Rattle.arrangements.specs.Arrangement.{place_fits}
use Rattle.arrangements.proofs.reordering.is_reordering.Given as goal

abbrev pub invariant-loop-i : goal.invariant-loop-i
invariant-loop-i l = (all_up_to (place_fits l.n l.p) l.i ≡ true)
