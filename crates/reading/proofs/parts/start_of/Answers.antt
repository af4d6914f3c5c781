use borrow.Author.Rules.{rules}
use Rattle.reading.proofs.PartLaws.{start_one, start_other}
use Rattle.reading.proofs.parts.start_of.Goals as goal

pub returns-then-v-eq1 : goal.returns-then-v-eq1
returns-then-v-eq1 c = search (start_one, rules)

pub returns-else-v-eq1 : goal.returns-else-v-eq1
returns-else-v-eq1 c = search (start_other, rules)
