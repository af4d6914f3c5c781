use Rattle.dropped.proofs.Winning.{order_high, row_low, row_before_lem, column_low, column_high, row_fits, column_fits, inverse_tested, places_are, first_low, first_high, second_low, second_high, two_vertices}
use Rattle.dropped.proofs.CodeDropped.{image_stands, image_falls}
use Rattle.turns.proofs.TurnCodes.{is_zero, not_zero}
use Rattle.dropped.proofs.image_may.Goals as goal

pub vertex_at-u-requires : goal.vertex_at-u-requires
vertex_at-u-requires c = (search row_low, search row_fits)

pub vertex_at-v-requires : goal.vertex_at-v-requires
vertex_at-v-requires c = (search column_low, search column_fits)

pub kind_of_two-requires : goal.kind_of_two-requires
kind_of_two-requires c = (search order_high, search inverse_tested, search first_low, search first_high, search second_low, search second_high, search two_vertices)

pub returns-then-is_nothing : goal.returns-then-is_nothing
returns-then-is_nothing c = search (image_stands, is_zero _ _ c.is_nothing.ensures c.if-is_nothing.true)

pub wins_after-requires : goal.wins_after-requires
wins_after-requires c = (search order_high, search places_are, search column_high)

pub returns : goal.returns
returns c = search (image_falls, not_zero _ _ c.is_nothing.ensures c.if-is_nothing.false)
