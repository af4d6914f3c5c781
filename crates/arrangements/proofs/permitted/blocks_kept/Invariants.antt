use mathlib.Core.Path.{◌≡◌}
use mathlib.Core.Bool.{true}
use Rattle.laws.specs.UpTo.{all_up_to}
use Rattle.arrangements.specs.Arrangement.{stays_in_block}
use Rattle.arrangements.proofs.permitted.blocks_kept.Given as goal

abbrev pub invariant-loop-i : goal.invariant-loop-i
invariant-loop-i l = (all_up_to (stays_in_block l.starts l.p) l.i ≡ true)
