use Rattle.dropped.proofs.Winning.{order_high, row_low, row_high, row_before_lem, row_apart, column_low, column_high, inverse_tested, places_are}
use Rattle.dropped.proofs.CodeDropped.{pair_stands, pair_falls}
use Rattle.turns.proofs.TurnCodes.{is_zero, not_zero}
use Rattle.dropped.proofs.pair_may.Goals as goal

pub kind_of_two-requires : goal.kind_of_two-requires
kind_of_two-requires c = (search order_high, search inverse_tested, search row_low, search row_high, search column_low, search column_high, search row_apart)

pub returns-then-is_nothing : goal.returns-then-is_nothing
returns-then-is_nothing c = search (pair_stands, is_zero _ _ c.is_nothing.ensures c.if-is_nothing.true)

pub wins_after-requires : goal.wins_after-requires
wins_after-requires c = (search order_high, search places_are, search column_high)

pub returns : goal.returns
returns c = search (pair_falls, not_zero _ _ c.is_nothing.ensures c.if-is_nothing.false)
