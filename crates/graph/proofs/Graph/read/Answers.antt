use borrow.Author.Rules.{rules}
use Rattle.laws.specs.TestLaws.{refused, passed}
use Rattle.pairs.proofs.VertexLaws.{row_low, column_low}
use Rattle.graph.specs.Answers.{read_answer}
use Rattle.graph.proofs.CodeAnswers.{row_most, column_most}
use Rattle.graph.proofs.Graph.read.Goals as goal

pub returns-in_err-formed : goal.returns-in_err-formed
unfolding read_answer
returns-in_err-formed c = search (refused, rules)

pub returns-in_err-check_pair : goal.returns-in_err-check_pair
unfolding read_answer
returns-in_err-check_pair c = search (refused, passed, rules)

pub entry_in-requires : goal.entry_in-requires
entry_in-requires c = (search (row_low, rules), search (row_most, rules), search (column_low, rules), search (column_most, rules))

pub returns : goal.returns
unfolding read_answer
returns c = search (passed, rules)
