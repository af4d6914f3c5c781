-- The first vertices of a graph.
use Rattle.std.specs.Prelude.{ℕ}
use Rattle.graph.specs.declared.Graph.{Graph}
use Rattle.graph.specs.Graph.{entry, drawn}

-- the graph of order m, in one block, with the entries that g has at 1..m
unfoldable pub first_vertices : ℕ → Graph → Graph
first_vertices m g = drawn m 1 (entry g)
