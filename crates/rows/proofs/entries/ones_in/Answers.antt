use borrow.Author.Rules.{rules}
use Rattle.laws.specs.Loops.{sum_starts, sum_turns, sum_done}
use Rattle.rows.proofs.entries.ones_in.Goals as goal

pub loop-i-init : goal.loop-i-init
loop-i-init c = search (sum_starts, rules)

pub loop-i-preserved : goal.loop-i-preserved
loop-i-preserved c = (search sum_turns, search rules)

pub returns : goal.returns
returns c = search (sum_done, rules)
