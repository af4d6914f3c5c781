use borrow.Author.Rules.{rules}
use Rattle.row_walks.proofs.CodeRows.{earlier_low, earlier_high}
use Rattle.row_walks.proofs.RowWords.{words_row}
use Rattle.row_walks.proofs.FixedRow.{fixed_row}
use Rattle.row_walks.proofs.row.row_walk.Goals as goal

pub returns-then-u-i : goal.returns-then-u-i
returns-then-u-i c = search (fixed_row, rules)

pub sources-requires : goal.sources-requires
sources-requires c = (search earlier_low, search earlier_high)

pub row_of-requires : goal.row_of-requires
row_of-requires c = (search earlier_low, search earlier_high)

pub row_of-requires-2 : goal.row_of-requires-2
row_of-requires-2 c = (search earlier_low, search earlier_high)

pub returns : goal.returns
returns c = search words_row
