use borrow.Author.Rules.{rules}
use Rattle.laws.specs.Loops.{all_starts, all_turns}
use Rattle.arrangements.proofs.CodeTests.{new_done, new_stops}
use Rattle.arrangements.proofs.reordering.is_new.Goals as goal

pub loop-j-init : goal.loop-j-init
loop-j-init c = search (all_starts, rules)

pub loop-j-preserved : goal.loop-j-preserved
loop-j-preserved c = search (all_turns, rules)

pub returns-then-not-differ : goal.returns-then-not-differ
returns-then-not-differ c = search (new_stops, rules)

pub returns : goal.returns
returns c = search (new_done, rules)
