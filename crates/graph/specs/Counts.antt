-- How many pairs of a graph have an entry, and how many edges a vertex has.
use Rattle.std.specs.Prelude.{ℕ, eqb}
use Rattle.laws.specs.Test.{both, either}
use Rattle.pairs.specs.Pairs.{Pair, pairs, count_of}
use Rattle.graph.specs.declared.Graph.{Graph}
use Rattle.graph.specs.Graph.{entry}

-- the entry of g at a pair
abbrev pub entry_at : Graph → Pair → ℕ
entry_at g k = entry g k.row k.column

-- how many pairs of g have the entry value
unfoldable pub pairs_with : Graph → ℕ → ℕ
pairs_with g value = count_of (λ k. eqb (entry_at g k) value) (pairs g.order)

-- how many pairs of g that have vertex v are edges
unfoldable pub edges_at : Graph → ℕ → ℕ
edges_at g v = count_of (λ k. both (either (eqb k.row v) (eqb k.column v)) (eqb (entry_at g k) 1)) (pairs g.order)
