use Rattle.numbers.proofs.WordLaws.{bytes_start, bytes_more, bytes_fit, times_fit, bytes_done}
use borrow.Author.Rules.{rules}
use Rattle.numbers.proofs.few_at.Goals as goal

pub loop-t-init : goal.loop-t-init
loop-t-init c = search (bytes_start, rules)

pub overflow_mul-made : goal.overflow_mul-made
overflow_mul-made c = search (times_fit, rules)

pub overflow_add-made : goal.overflow_add-made
overflow_add-made c = search (bytes_fit, rules)

pub loop-t-preserved : goal.loop-t-preserved
loop-t-preserved c = search (bytes_more, rules)

pub returns : goal.returns
returns c = search (bytes_done, rules)
