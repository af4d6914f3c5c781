use Rattle.pen.proofs.CodePen.{store_starts, store_turns, store_done, stored_kept, store_room}
use borrow.Author.Rules.{rules}
use Rattle.pen.proofs.store.Goals as goal

pub loop-t-init : goal.loop-t-init
loop-t-init c = search (store_starts, rules)

pub overflow_add-out : goal.overflow_add-out
overflow_add-out c = search (store_room, rules)

pub bounds-out-at : goal.bounds-out-at
bounds-out-at c = search (store_room, rules)

pub loop-t-preserved : goal.loop-t-preserved
loop-t-preserved c = search (store_turns, rules)

pub shape_of-out : goal.shape_of-out
shape_of-out c = search (stored_kept, rules)

pub returns : goal.returns
returns c = search (store_done, rules)
