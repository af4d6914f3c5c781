use borrow.Author.Rules.{rules}
use Rattle.column_walks.proofs.CodeColumns.{down_goes_on, down_ends, down_begins, down_over}
use Rattle.turns.proofs.TurnCodes.{is_zero, not_zero}
use Rattle.column_walks.proofs.column.column_walk.Goals as goal

pub loop-i-init : goal.loop-i-init
loop-i-init c = (search rules, search rules, search down_begins)

pub returns-then-not-is_open : goal.returns-then-not-is_open
returns-then-not-is_open c = search (down_ends, not_zero _ _ c.is_open.ensures c.if-not-is_open.true, rules)

pub loop-i-preserved : goal.loop-i-preserved
loop-i-preserved c = (search rules, search rules, search (down_goes_on, is_zero _ _ c.is_open.ensures c.if-not-is_open.false, rules))

pub returns : goal.returns
returns c = search (down_over, rules)
