use borrow.Author.Rules.{rules}
use Rattle.composing.proofs.CodeComposed.{inverse_starts, inverse_turns, inverse_done}
use Rattle.composing.proofs.composed.inverse_of.Goals as goal

pub loop-i-init : goal.loop-i-init
loop-i-init c = search (inverse_starts, rules)

pub loop-i-preserved : goal.loop-i-preserved
loop-i-preserved c = search (inverse_turns, rules)

pub returns : goal.returns
returns c = search (inverse_done, rules)
