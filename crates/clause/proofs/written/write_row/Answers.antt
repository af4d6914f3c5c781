use borrow.Author.Rules.{rules}
use Rattle.clause.proofs.Writing.{along_begins, along_done, column_in_lem, column_after, lowest_small, column_fits, next_column_fits, number_fits, next_number_fits, number_small, fewer_left, room_left, along_turns}
use Rattle.clause.proofs.written.write_row.Goals as goal

pub loop-left-init : goal.loop-left-init
loop-left-init c = search (along_begins, rules)

pub overflow_add-j-in-loop-left : goal.overflow_add-j-in-loop-left
overflow_add-j-in-loop-left c = search (column_fits, rules)

pub overflow_add-m : goal.overflow_add-m
overflow_add-m c = search (number_fits, rules)

pub kind_at-kind-requires : goal.kind_at-kind-requires
kind_at-kind-requires c = (search rules, search rules, search rules, search (column_after, rules), search (column_in_lem, rules))

pub put-written-requires : goal.put-written-requires
put-written-requires c = (search (room_left, rules), search (number_small, rules))

pub overflow_shr-left : goal.overflow_shr-left
overflow_shr-left c = search (lowest_small, rules)

pub overflow_add-j-in-loop-left-2 : goal.overflow_add-j-in-loop-left-2
overflow_add-j-in-loop-left-2 c = search (next_column_fits, rules)

pub overflow_add-m-in-loop-left : goal.overflow_add-m-in-loop-left
overflow_add-m-in-loop-left c = search (next_number_fits, rules)

pub loop-left-smaller : goal.loop-left-smaller
loop-left-smaller c = search (fewer_left, rules)

pub loop-left-preserved : goal.loop-left-preserved
loop-left-preserved c = search along_turns

pub returns : goal.returns
returns c = search (along_done, rules)
