use borrow.Author.Rules.{rules}
use Rattle.fields.proofs.BitLaws.{number_none, number_done, number_turn, number_turn_small}
use Rattle.fields.proofs.bits.number_at.Goals as goal

pub loop-t-init : goal.loop-t-init
loop-t-init c = search (number_none, rules)

pub loop-t-preserved : goal.loop-t-preserved
loop-t-preserved c = search (number_turn, number_turn_small, rules)

pub returns : goal.returns
returns c = search (number_done, rules)
