-- A graph value whose rows are lent.
use Rattle.graph.specs.declared.Graph.{Graph}
use Rattle.graph.specs.declared.LentGraph.{LentGraph}
use Rattle.graph.specs.Graph.{graph_of}

abbrev pub lent : LentGraph → Graph
lent g = graph_of g.order g.rows.edges.now g.rows.unknowns.now g.starts
