use borrow.Author.Rules.{rules}
use Rattle.kinds.proofs.PlaceLaws.{before_fits, before_within, row_within, column_within, masked}
use Rattle.kinds.proofs.columns.masks_of.Goals as goal

pub first_places-requires : goal.first_places-requires
first_places-requires c = (search (before_fits, rules), search (before_within, rules))

pub first_places-requires-2 : goal.first_places-requires-2
first_places-requires-2 c = (search rules, search (row_within, rules))

pub first_places-requires-3 : goal.first_places-requires-3
first_places-requires-3 c = (search rules, search (column_within, rules))

pub returns : goal.returns
returns c = search (masked, rules)
