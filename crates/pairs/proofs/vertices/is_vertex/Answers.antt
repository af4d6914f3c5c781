use borrow.Author.Rules.{rules}
use Rattle.pairs.proofs.VertexLaws.{vertex_zero, vertex_some}
use Rattle.pairs.proofs.vertices.is_vertex.Goals as goal

pub returns-then-v-lt1 : goal.returns-then-v-lt1
returns-then-v-lt1 c = search (vertex_zero, rules)

pub returns : goal.returns
returns c = search (vertex_some, rules)
