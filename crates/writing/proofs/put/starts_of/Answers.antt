use Rattle.fields.proofs.BitLaws.{number_none, number_turn, number_done}
use Rattle.writing.proofs.PutLaws.{start_fits, twice_fits}
use borrow.Author.Rules.{rules}
use Rattle.writing.proofs.put.starts_of.Goals as goal

pub loop-t-init : goal.loop-t-init
loop-t-init c = search (number_none, rules)

pub overflow_mul-made : goal.overflow_mul-made
overflow_mul-made c = search (twice_fits, rules)

pub overflow_add-made : goal.overflow_add-made
overflow_add-made c = search (start_fits, rules)

pub loop-t-preserved : goal.loop-t-preserved
loop-t-preserved c = search (number_turn, rules)

pub returns : goal.returns
returns c = search (number_done, rules)
