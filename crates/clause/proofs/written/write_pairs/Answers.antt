use borrow.Author.Rules.{rules}
use Rattle.kinds.proofs.PlaceLaws.{places_tested, masked_there}
use Rattle.clause.proofs.Writing.{rows_begin, rows_done, room_for, rows_turn}
use Rattle.clause.proofs.written.write_pairs.Goals as goal

pub loop-i-init : goal.loop-i-init
loop-i-init c = search (rows_begin, rules)

pub columns_of-columns-requires : goal.columns_of-columns-requires
columns_of-columns-requires c = (search rules, search (places_tested, rules), search rules, search (masked_there, rules), search rules, search rules)

pub write_row-count-requires : goal.write_row-count-requires
write_row-count-requires c = (search rules, search (places_tested, rules), search rules, search rules, search (room_for, rules), search rules, search rules, c.columns_of-columns.ensures.1 _ _)

pub loop-i-preserved : goal.loop-i-preserved
loop-i-preserved c = search rows_turn

pub returns : goal.returns
returns c = search (rows_done, rules)
