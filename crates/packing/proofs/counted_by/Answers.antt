use borrow.Author.Rules.{rules}
use Rattle.packing.proofs.Counting.{counted_bytes, counted_refusal}
use Rattle.packing.proofs.counted_by.Goals as goal

pub returns-then-number-eq0 : goal.returns-then-number-eq0
returns-then-number-eq0 c = search (counted_bytes, rules)

pub returns : goal.returns
returns c = search (counted_refusal, rules)
