use borrow.Author.Rules.{rules}
use Rattle.column_walks.proofs.CodeColumns.{column_turn_is, last_low, last_high, above_low, above_high}
use Rattle.column_walks.proofs.column.column_turn.Goals as goal

pub row_of-marks-requires : goal.row_of-marks-requires
row_of-marks-requires c = (search last_low, search last_high)

pub row_of-hidden-requires : goal.row_of-hidden-requires
row_of-hidden-requires c = (search last_low, search last_high)

pub turn_down-requires : goal.turn_down-requires
turn_down-requires c = (search rules, search rules, search above_low, search above_high, search last_low)

pub returns : goal.returns
returns c = search column_turn_is
