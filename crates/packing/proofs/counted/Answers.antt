use mathlib.Core.Path.{◌∙◌}
use borrow.Author.Rules.{rules}
use Rattle.packing.specs.Packing.{counted}
use Rattle.packing.proofs.Counting.{told_bytes, told_number, told_refusal}
use Rattle.packing.proofs.counted.Goals as goal

pub counted_by-requires : goal.counted_by-requires
counted_by-requires c = search rules

pub returns-in-Ok : goal.returns-in-Ok
unfolding counted
returns-in-Ok c = rw c.in-Ok.is (c.counted_by.ensures ∙ told_bytes _)

pub counted_by-requires-in-Err : goal.counted_by-requires-in-Err
counted_by-requires-in-Err c = search (told_number, rules)

pub returns-in-Err : goal.returns-in-Err
unfolding counted
returns-in-Err c = search (told_refusal, rules)
