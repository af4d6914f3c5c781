use borrow.Author.Rules.{rules}
use Rattle.row_walks.proofs.CodeRows.{chosen_first, chosen_second}
use Rattle.row_walks.proofs.row.chosen.Goals as goal

pub returns-then-test : goal.returns-then-test
returns-then-test c = search (chosen_first, rules)

pub returns : goal.returns
returns c = search (chosen_second, rules)
