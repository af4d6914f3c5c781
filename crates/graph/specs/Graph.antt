-- Entries of a graph value, and how a graph is drawn from a table of entries. Vertices are 1..n.
use Rattle.std.specs.Prelude.{ℕ, ◌/◌, ◌%◌, List}
use Rattle.laws.specs.UpTo.{word_up_to}
use Rattle.words.specs.Placed.{placed}
use Rattle.rows.specs.Rows.{entry_in, with_mark, mirrored}
use Rattle.arrangements.specs.Arrangement.{at}
use Rattle.graph.specs.declared.Graph.{Graph}

-- the graph value of these rows
abbrev pub graph_of : ℕ → List ℕ → List ℕ → ℕ → Graph
graph_of order edges unknowns starts = record { order = order; edges = edges; unknowns = unknowns; starts = starts }

-- the entry of g at (i, j)
abbrev pub entry : Graph → ℕ → ℕ → ℕ
entry g i j = entry_in g.edges g.unknowns i j

-- g with the entry at (i, j), in both halves, made value
unfoldable pub with_entry : Graph → ℕ → ℕ → ℕ → Graph
with_entry g i j value =
    record {
      order = g.order;
      edges = with_mark g.edges i j (value % 2);
      unknowns = with_mark g.unknowns i j (value / 2);
      starts = g.starts;
    }

-- the graph of order n with entry e i j at each pair i < j
unfoldable pub drawn : ℕ → ℕ → (ℕ → ℕ → ℕ) → Graph
drawn n starts e =
    record {
      order = n;
      edges = placed (λ i. word_up_to (λ j. mirrored e i j % 2) n) n;
      unknowns = placed (λ i. word_up_to (λ j. mirrored e i j / 2) n) n;
      starts = starts;
    }

-- ---- relabelling

-- g relabelled by p: the entry at (i, j) is g's at (p(i), p(j)), the blocks are the same
unfoldable pub relabelled : Graph → List ℕ → Graph
relabelled g p = drawn g.order g.starts (λ i j. entry g (at p i) (at p j))
