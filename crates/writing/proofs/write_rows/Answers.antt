use borrow.Author.Rules.{rules}
use Rattle.laws.specs.Test.{unless}
use Rattle.graph.proofs.CodeAnswers.{order_low, order_high}
use Rattle.record.specs.Answers.{write_answer, buffer_after}
use Rattle.writing.proofs.write_rows.Goals as goal

pub returns-in_err-formed : goal.returns-in_err-formed
unfolding write_answer buffer_after unless
returns-in_err-formed c = search rules

pub byte_count-size-requires : goal.byte_count-size-requires
byte_count-size-requires c = search (order_low, order_high, rules)

pub returns-then-out-size : goal.returns-then-out-size
unfolding write_answer buffer_after unless
returns-then-out-size c = search rules

pub returns : goal.returns
unfolding write_answer buffer_after unless
returns c = search rules
