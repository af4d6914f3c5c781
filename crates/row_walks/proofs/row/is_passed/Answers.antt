use borrow.Author.Rules.{rules}
use Rattle.row_walks.proofs.AlikeRows.{alike_passes}
use Rattle.row_walks.proofs.CodeRows.{start_low, start_high}
use Rattle.row_walks.proofs.row.is_passed.Goals as goal

pub row_of-marks-requires : goal.row_of-marks-requires
row_of-marks-requires c = (search start_low, search start_high)

pub row_of-hidden-requires : goal.row_of-hidden-requires
row_of-hidden-requires c = (search start_low, search start_high)

pub returns : goal.returns
returns c = search (alike_passes, rules)
