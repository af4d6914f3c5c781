use borrow.Author.Rules.{rules}
use Rattle.laws.specs.Test.{unless}
use Rattle.pairs.proofs.VertexLaws.{order_in_range}
use Rattle.record.specs.Answers.{size_answer, record_in, record_at}
use Rattle.reading.proofs.record_at.Goals as goal

pub returns-in_err-check_given : goal.returns-in_err-check_given
unfolding record_at record_in size_answer unless
returns-in_err-check_given c = search (order_in_range, rules)

pub returns-in_err-whole : goal.returns-in_err-whole
unfolding record_at record_in size_answer unless
returns-in_err-whole c = search (order_in_range, rules)

pub returns-in_err-check_given-2 : goal.returns-in_err-check_given-2
unfolding record_at record_in size_answer unless
returns-in_err-check_given-2 c = search (order_in_range, rules)

pub invariant_of-held : goal.invariant_of-held
unfolding record_at record_in size_answer unless
invariant_of-held c = search (order_in_range, rules)

pub returns-in_err-check_entries : goal.returns-in_err-check_entries
unfolding record_at record_in size_answer unless
returns-in_err-check_entries c = search (order_in_range, rules)

pub returns-in_err-check_pad : goal.returns-in_err-check_pad
unfolding record_at record_in size_answer unless
returns-in_err-check_pad c = search (order_in_range, rules)

pub returns : goal.returns
unfolding record_at record_in size_answer unless
returns c = search (order_in_range, rules)
