use borrow.Author.Rules.{rules}
use Rattle.column_walks.proofs.CodeColumns.{held_used, held_none}
use Rattle.column_walks.proofs.column.place_held.Goals as goal

pub returns-then-used-v-eq1 : goal.returns-then-used-v-eq1
returns-then-used-v-eq1 c = search (held_used, rules)

pub returns : goal.returns
returns c = search (held_none, rules)
