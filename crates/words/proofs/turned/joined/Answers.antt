use Rattle.words.proofs.Filled.{placed_starts, placed_done}
use Rattle.words.proofs.CodeStages.{halves_turn}
use borrow.Author.Rules.{rules}
use Rattle.words.proofs.turned.joined.Goals as goal

pub loop-i-init : goal.loop-i-init
loop-i-init c = search (placed_starts, rules)

pub loop-i-preserved : goal.loop-i-preserved
loop-i-preserved c = search (halves_turn, rules)

pub returns : goal.returns
returns c = search (placed_done, rules)
