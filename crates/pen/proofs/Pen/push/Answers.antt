use Rattle.pen.proofs.CodePen.{kept_fits, kept_below, push_waits, word_fits, push_stores, rest_below}
use borrow.Author.Rules.{rules}
use Rattle.pen.proofs.Pen.push.Goals as goal

pub overflow_add-result : goal.overflow_add-result
overflow_add-result c = search (kept_fits, rules)

pub invariant_of-result : goal.invariant_of-result
invariant_of-result c = search (kept_below, rules)

pub returns-then-have-lt64 : goal.returns-then-have-lt64
returns-then-have-lt64 c = search (push_waits, rules)

pub overflow_add-self : goal.overflow_add-self
overflow_add-self c = search (word_fits, rules)

pub invariant_of-result-2 : goal.invariant_of-result-2
invariant_of-result-2 c = search (rest_below, rules)

pub returns : goal.returns
returns c = search (push_stores, rules)
