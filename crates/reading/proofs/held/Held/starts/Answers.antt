use borrow.Author.Rules.{rules}
use Rattle.laws.specs.Loops.{word_starts, word_grows, word_fits}
use Rattle.reading.proofs.PartLaws.{start_more, starts_done}
use Rattle.reading.proofs.held.Held.starts.Goals as goal

pub loop-v-init : goal.loop-v-init
loop-v-init c = search (word_starts, rules)

pub overflow_add-starts : goal.overflow_add-starts
overflow_add-starts c = search (word_fits, rules)

pub loop-v-preserved : goal.loop-v-preserved
loop-v-preserved c = search (start_more, word_grows, rules)

pub returns : goal.returns
returns c = search (starts_done, rules)
