use borrow.Author.Rules.{rules}
use Rattle.laws.specs.Loops.{word_starts}
use Rattle.arrangements.proofs.CodePlaces.{row_of_place, moved_turns, moved_done, bit_grows, bit_fits}
use Rattle.arrangements.proofs.moved.moved_row.Goals as goal

pub loop-j-init : goal.loop-j-init
loop-j-init c = (search row_of_place, search word_starts, search rules)

pub overflow_add-row : goal.overflow_add-row
overflow_add-row c = search (bit_fits, rules)

pub loop-j-preserved : goal.loop-j-preserved
loop-j-preserved c = (search rules, search moved_turns, search bit_grows)

pub returns : goal.returns
returns c = search (moved_done, rules)
