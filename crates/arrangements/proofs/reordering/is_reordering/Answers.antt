use borrow.Author.Rules.{rules}
use Rattle.laws.specs.Loops.{all_starts, all_turns}
use Rattle.arrangements.proofs.CodeTests.{reordering_done, reordering_stops}
use Rattle.arrangements.proofs.reordering.is_reordering.Goals as goal

pub loop-i-init : goal.loop-i-init
loop-i-init c = search (all_starts, rules)

pub loop-i-preserved : goal.loop-i-preserved
loop-i-preserved c = search (all_turns, rules)

pub returns-then-not-place_fits : goal.returns-then-not-place_fits
returns-then-not-place_fits c = search (reordering_stops, rules)

pub returns : goal.returns
returns c = search (reordering_done, rules)
