use borrow.Author.Rules.{rules}
use Rattle.kinds.proofs.PlaceLaws.{first_none, first_more, first_done, place_low, place_high}
use Rattle.kinds.proofs.columns.first_places.Goals as goal

pub loop-i-init : goal.loop-i-init
loop-i-init c = search (first_none, rules)

pub weight_of-mask-requires : goal.weight_of-mask-requires
weight_of-mask-requires c = (search place_low, search place_high)

pub loop-i-preserved : goal.loop-i-preserved
loop-i-preserved c = search (first_more, rules)

pub returns : goal.returns
returns c = search (first_done, rules)
