use borrow.Author.Rules.{rules}
use Rattle.row_walks.proofs.AlikeRows.{alike_none, alike_not, alike_all}
use Rattle.row_walks.proofs.row.is_alike.Goals as goal

pub returns-then-doubts-i-ne0 : goal.returns-then-doubts-i-ne0
returns-then-doubts-i-ne0 c = search (alike_not, rules)

pub returns-then-after-eq0 : goal.returns-then-after-eq0
returns-then-after-eq0 c = search (alike_none, rules)

pub returns-then-marked-later : goal.returns-then-marked-later
returns-then-marked-later c = search (alike_all, rules)

pub returns : goal.returns
returns c = search (alike_not, rules)
