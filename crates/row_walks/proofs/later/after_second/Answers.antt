use borrow.Author.Rules.{rules}
use Rattle.row_walks.proofs.AlikeRows.{early_low, early_high, later_starts}
use Rattle.row_walks.proofs.later.after_second.Goals as goal

pub without_place-first-requires : goal.without_place-first-requires
without_place-first-requires c = (search rules, search rules, search (early_low, rules), search (early_high, rules))

pub without_place-requires : goal.without_place-requires
without_place-requires c = (search rules, search rules, search (early_low, rules), search (early_high, rules))

pub returns : goal.returns
returns c = search later_starts
