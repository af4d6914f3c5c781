-- The full answer of each public function, with its refusals in the order of their checks.
use Rattle.std.specs.Prelude.{ℕ, List, replicate, leb, Result, Ok, Err}
use Rattle.laws.specs.Test.{unless}
use Rattle.refusal.specs.declared.Refusal.{Refusal}
use Rattle.refusal.specs.declared.Refusal.TheVariants.{Vertex, Malformed, Value, Arrangement}
use Rattle.graph.specs.declared.Graph.{Graph}
use Rattle.graph.specs.declared.Unset.{Unset}
use Rattle.graph.specs.declared.Totals.{Totals}
use Rattle.graph.specs.Graph.{entry, with_entry, relabelled}
use Rattle.graph.specs.WellFormed.{well_formed}
use Rattle.pairs.specs.Vertices.{is_vertex, is_pair}
use Rattle.graph.specs.Counts.{pairs_with, edges_at}
use Rattle.arrangements.specs.Arrangement.{is_permitted}

-- ---- entries

unfoldable pub read_answer : Graph → ℕ → ℕ → Result ℕ Refusal
read_answer g i j = unless (well_formed g) (Err Malformed) (unless (is_pair g.order i j) (Err Vertex) (Ok (entry g i j)))

-- a refused setting gives back the graph that came in
abbrev pub unset : Refusal → Graph → Unset
unset why g = record { refusal = why; graph = g }

unfoldable pub set_answer : Graph → ℕ → ℕ → ℕ → Result Graph Unset
set_answer g i j value =
    unless (well_formed g) (Err (unset Malformed g))
    (unless (is_pair g.order i j) (Err (unset Vertex g))
    (unless (leb value 2) (Err (unset Value g))
    (Ok (with_entry g i j value))))

-- ---- counts

abbrev pub totals : ℕ → ℕ → ℕ → Totals
totals e z u = record { edges = e; non_edges = z; unknowns = u }

unfoldable pub totals_of : Graph → Totals
totals_of g = totals (pairs_with g 1) (pairs_with g 0) (pairs_with g 2)

unfoldable pub count_answer : Graph → Result Totals Refusal
count_answer g = unless (well_formed g) (Err Malformed) (Ok (totals_of g))

unfoldable pub degree_answer : Graph → ℕ → Result ℕ Refusal
degree_answer g v = unless (well_formed g) (Err Malformed) (unless (is_vertex g.order v) (Err Vertex) (Ok (edges_at g v)))

-- ---- arrangements

-- the graph of order 0, all zeros
abbrev pub no_graph : Graph
no_graph = record { order = 0; edges = replicate 32 0; unknowns = replicate 32 0; starts = 0 }

unfoldable pub relabel_answer : Graph → List ℕ → Result Graph Refusal
relabel_answer g p =
    unless (well_formed g) (Err Malformed)
    (unless (is_permitted g.order g.starts p) (Err Arrangement)
    (Ok (relabelled g p)))
