use borrow.Author.Rules.{rules}
use Rattle.stops.proofs.CodeTried.{stop_won, stop_lost, tried_open, tried_won, tried_not}
use Rattle.turns.proofs.TurnCodes.{is_two, not_two}
use Rattle.stops.proofs.tried.tried.Goals as goal

pub returns-then-one_at-eq1 : goal.returns-then-one_at-eq1
returns-then-one_at-eq1 c = search (stop_won, rules)

pub returns-then-stops-v-eq1 : goal.returns-then-stops-v-eq1
returns-then-stops-v-eq1 c = search (stop_lost, rules)

pub returns-then-k-n : goal.returns-then-k-n
returns-then-k-n c = search (tried_open, rules)

pub rows_walk-requires : goal.rows_walk-requires
rows_walk-requires c = (search rules, c.requires.4 c.if-k-n.false)

pub returns-then-is_won : goal.returns-then-is_won
returns-then-is_won c = search (tried_won, is_two _ _ c.is_won.ensures c.if-is_won.true, rules)

pub returns : goal.returns
returns c = search (tried_not, not_two _ _ c.is_won.ensures c.if-is_won.false, rules)
