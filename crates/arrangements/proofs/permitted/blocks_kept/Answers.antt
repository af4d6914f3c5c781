use borrow.Author.Rules.{rules}
use Rattle.laws.specs.Loops.{all_starts, all_turns, all_done, all_stops}
use Rattle.arrangements.proofs.CodeTests.{vertex_in}
use Rattle.arrangements.proofs.permitted.blocks_kept.Goals as goal

pub loop-i-init : goal.loop-i-init
loop-i-init c = search (all_starts, rules)

pub stays_in_block-requires : goal.stays_in_block-requires
stays_in_block-requires c = search (vertex_in, rules)

pub loop-i-preserved : goal.loop-i-preserved
loop-i-preserved c = search (all_turns, rules)

pub returns-then-not-stays_in_block : goal.returns-then-not-stays_in_block
returns-then-not-stays_in_block c = search (all_stops, rules)

pub returns : goal.returns
returns c = search (all_done, rules)
