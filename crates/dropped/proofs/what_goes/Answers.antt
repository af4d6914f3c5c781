use Rattle.dropped.proofs.Winning.{row_low, column_low, row_fits, column_fits}
use Rattle.dropped.proofs.CodeDropped.{image_goes_first, image_goes_then, pair_goes_first, pair_goes_then}
use Rattle.dropped.proofs.what_goes.Goals as goal

pub vertex_at-u-requires : goal.vertex_at-u-requires
vertex_at-u-requires c = (search row_low, search row_fits)

pub vertex_at-v-requires : goal.vertex_at-v-requires
vertex_at-v-requires c = (search column_low, search column_fits)

pub goes_before-requires : goal.goes_before-requires
goes_before-requires c = (search row_low, search column_low)

pub returns-then-image_may : goal.returns-then-image_may
returns-then-image_may c = search image_goes_first

pub returns-then-goes_before : goal.returns-then-goes_before
returns-then-goes_before c = search pair_goes_then

pub returns-then-pair_may : goal.returns-then-pair_may
returns-then-pair_may c = search pair_goes_first

pub returns : goal.returns
returns c = search image_goes_then
