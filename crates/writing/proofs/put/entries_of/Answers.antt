use Rattle.writing.proofs.PutLaws.{along_starts, along_more, along_done, entry_fits, fourfold_fits}
use borrow.Author.Rules.{rules}
use Rattle.writing.proofs.put.entries_of.Goals as goal

pub loop-t-init : goal.loop-t-init
loop-t-init c = search (along_starts, rules)

pub overflow_mul-made : goal.overflow_mul-made
overflow_mul-made c = search (fourfold_fits, rules)

pub overflow_add-made : goal.overflow_add-made
overflow_add-made c = search (entry_fits, rules)

pub loop-t-preserved : goal.loop-t-preserved
loop-t-preserved c = search (along_more, rules)

pub returns : goal.returns
returns c = search (along_done, rules)
