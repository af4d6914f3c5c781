use borrow.Author.Rules.{rules}
use Rattle.laws.specs.TestLaws.{first_failed, first_held}
use Rattle.pairs.specs.Vertices.{is_pair}
use Rattle.pairs.proofs.vertices.is_pair.Goals as goal

pub returns-then-is_vertex-2 : goal.returns-then-is_vertex-2
unfolding is_pair
returns-then-is_vertex-2 c = search (first_held, rules)

pub returns-then-is_vertex : goal.returns-then-is_vertex
unfolding is_pair
returns-then-is_vertex c = search (first_failed, first_held, rules)

pub returns : goal.returns
unfolding is_pair
returns c = search (first_failed, rules)
