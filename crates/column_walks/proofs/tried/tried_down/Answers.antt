use borrow.Author.Rules.{rules}
use Rattle.column_walks.proofs.CodeColumns.{tried_short, last_open, last_ended, last_within}
use Rattle.turns.proofs.TurnCodes.{is_zero, not_zero}
use Rattle.column_walks.proofs.tried.tried_down.Goals as goal

pub returns-then-k-n : goal.returns-then-k-n
returns-then-k-n c = search (tried_short, rules)

pub column_walk-turn-requires : goal.column_walk-turn-requires
column_walk-turn-requires c = (search rules, search rules, search last_within)

pub returns-then-is_open : goal.returns-then-is_open
returns-then-is_open c = search (last_open, is_zero _ _ c.is_open.ensures c.if-is_open.true, rules)

pub returns : goal.returns
returns c = search (last_ended, not_zero _ _ c.is_open.ensures c.if-is_open.false, rules)
