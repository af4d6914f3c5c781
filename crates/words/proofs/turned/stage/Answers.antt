use Rattle.words.proofs.Filled.{placed_starts}
use Rattle.words.proofs.CodeStages.{stage_turns, stage_done}
use borrow.Author.Rules.{rules}
use Rattle.words.proofs.turned.stage.Goals as goal

pub loop-i-init : goal.loop-i-init
loop-i-init c = search (placed_starts, rules)

pub loop-i-preserved : goal.loop-i-preserved
loop-i-preserved c = search (stage_turns, rules)

pub returns : goal.returns
returns c = search (stage_done, rules)
