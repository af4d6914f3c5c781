use borrow.Author.Rules.{rules}
use Rattle.row_walks.proofs.CodeRows.{earlier_low, earlier_high}
use Rattle.row_walks.proofs.SureRow.{second_sure, second_bare}
use Rattle.row_walks.proofs.later.second_row.Goals as goal

pub row_of-requires-2 : goal.row_of-requires-2
row_of-requires-2 c = (search (earlier_low, rules), search (earlier_high, rules))

pub row_of-marks-requires : goal.row_of-marks-requires
row_of-marks-requires c = (search (earlier_low, rules), search (earlier_high, rules))

pub returns-then-ones-marks-eq0 : goal.returns-then-ones-marks-eq0
returns-then-ones-marks-eq0 c = search second_bare

pub returns : goal.returns
returns c = search second_sure
