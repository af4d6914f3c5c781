use borrow.Author.Rules.{rules}
use Rattle.laws.specs.TestLaws.{passed}
use Rattle.pairs.proofs.VertexLaws.{row_low, column_low, apart}
use Rattle.graph.specs.Answers.{set_answer}
use Rattle.graph.proofs.CodeAnswers.{row_most, column_most, value_held, set_is}
use Rattle.graph.proofs.Graph.set.Goals as goal

pub mark-requires : goal.mark-requires
mark-requires c = (search rules, search rules, search (row_low, rules), search (row_most, rules), search (column_low, rules), search (column_most, rules), search (apart, rules))

pub mark-requires-2 : goal.mark-requires-2
mark-requires-2 c = (search rules, search rules, search (row_low, rules), search (row_most, rules), search (column_low, rules), search (column_most, rules), search (apart, rules))

pub returns : goal.returns
unfolding set_answer
returns c = search (passed, set_is, value_held, rules)
