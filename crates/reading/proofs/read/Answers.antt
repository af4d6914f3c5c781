use borrow.Author.Rules.{rules}
use Rattle.record.proofs.Accepted.{found_low, found_high}
use Rattle.record.specs.Answers.{read_answer}
use Rattle.reading.proofs.read.Goals as goal

pub returns-in_err-record_at : goal.returns-in_err-record_at
unfolding read_answer
returns-in_err-record_at c = search rules

pub graph_of-requires : goal.graph_of-requires
graph_of-requires c = search (found_low, found_high, rules)

pub returns : goal.returns
unfolding read_answer
returns c = search rules
