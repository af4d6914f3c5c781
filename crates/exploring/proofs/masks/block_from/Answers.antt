use borrow.Author.Rules.{rules}
use Rattle.exploring.proofs.BlockRuns.{run_short, run_is}
use Rattle.exploring.proofs.masks.block_from.Goals as goal

pub overflow_sub-result : goal.overflow_sub-result
overflow_sub-result c = search (run_short, rules)

pub returns : goal.returns
returns c = search (run_is, rules)
