use borrow.Author.Rules.{rules}
use Rattle.arrangements.proofs.CodeTests.{block_turns}
use Rattle.laws.specs.Loops.{sum_starts, sum_done}
use Rattle.arrangements.proofs.permitted.block_of.Goals as goal

pub loop-i-init : goal.loop-i-init
loop-i-init c = search (sum_starts, rules)

pub loop-i-preserved : goal.loop-i-preserved
loop-i-preserved c = search (block_turns, rules)

pub returns : goal.returns
returns c = search (sum_done, rules)
