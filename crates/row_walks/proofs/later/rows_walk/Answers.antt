use borrow.Author.Rules.{rules}
use Rattle.row_walks.proofs.CodeRows.{second_none, second_ends, second_goes_on}
use Rattle.row_walks.proofs.later.rows_walk.Goals as goal

pub returns-then-n-lt3 : goal.returns-then-n-lt3
returns-then-n-lt3 c = search (second_none, rules)

pub returns-then-is_open : goal.returns-then-is_open
returns-then-is_open c = search (second_goes_on, rules)

pub returns : goal.returns
returns c = search (second_ends, rules)
