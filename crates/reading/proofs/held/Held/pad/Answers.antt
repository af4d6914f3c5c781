use borrow.Author.Rules.{rules}
use Rattle.reading.proofs.PartLaws.{some_bytes, pad_room, pad_within, pad_is}
use Rattle.reading.proofs.held.Held.pad.Goals as goal

pub overflow_sub-left : goal.overflow_sub-left
overflow_sub-left c = search (pad_room, rules)

pub overflow_sub-taken : goal.overflow_sub-taken
overflow_sub-taken c = search (some_bytes, rules)

pub limit_of-requires : goal.limit_of-requires
limit_of-requires c = search (pad_within, rules)

pub returns : goal.returns
returns c = search (pad_is, rules)
