use borrow.Author.Rules.{rules}
use Rattle.laws.specs.TestLaws.{refused, passed}
use Rattle.pairs.proofs.VertexLaws.{vertex_low}
use Rattle.graph.specs.Answers.{degree_answer}
use Rattle.graph.proofs.CodeAnswers.{vertex_most, degree_is}
use Rattle.graph.proofs.Graph.count_at.Goals as goal

pub returns-in_err-formed : goal.returns-in_err-formed
unfolding degree_answer
returns-in_err-formed c = search (refused, rules)

pub returns-in_err-check_vertex : goal.returns-in_err-check_vertex
unfolding degree_answer
returns-in_err-check_vertex c = search (refused, passed, rules)

pub ones_at-requires : goal.ones_at-requires
ones_at-requires c = search (vertex_low, vertex_most, rules)

pub returns : goal.returns
unfolding degree_answer
returns c = search (passed, degree_is, rules)
