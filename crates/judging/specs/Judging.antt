-- Beginnings, certificates and clauses of a graph: judging over a scheme of comparison, used at the pairs of a graph in the order that a mode names:
-- 2 is by columns, and any other number by rows.
use Rattle.std.specs.Prelude.{ℕ, ◌-◌, List, ◌++◌, ℤ, length, replicate}
use Rattle.walk.specs.Walk.{Outcome}
use Rattle.walk.specs.Clause.{Literal}
use Rattle.beginnings.specs.Search.{Judgement, Found}
use Rattle.beginnings.specs.Certificate.{completed}
use Rattle.schemes.specs.Judging.{walk_of, literals_by, needed_by, written_by}
use Rattle.schemes.specs.Judging
use Rattle.plain.specs.Plain.{by_mode}
use Rattle.graph.specs.declared.Graph.{Graph}
use Rattle.rows.specs.Rows.{block_of}
use Rattle.pairs.specs.Pairs.{Pair, pairs}
use Rattle.graph.specs.Counts.{entry_at}

-- ---- the walk of an arrangement

-- the walk of p over all pairs: won at the winning pair, if there is one
abbrev pub walk_all : (mode : ℕ) → Graph → List ℕ → Outcome Pair
walk_all mode g p = walk_of (by_mode mode g.order) (entry_at g) p

-- the literals that it meets, by rising pair number, which is the row number in every mode: of every entry known in g itself that was met, other than against itself, up to and
-- with the winning pair
abbrev pub literals_of : (mode : ℕ) → Graph → List ℕ → List (Literal Pair)
literals_of mode g p = literals_by (by_mode mode g.order) (pairs g.order) (entry_at g) p

-- the literals of p's clause: from the highest pair number down, each is dropped where p still wins by what the remaining ones say
abbrev pub needed_of : (mode : ℕ) → Graph → List ℕ → List (Literal Pair)
needed_of mode g p = needed_by (by_mode mode g.order) (pairs g.order) (entry_at g) p

-- the clause as it is written: by the numbers of the pairs, which rise
abbrev pub clause_of : (mode : ℕ) → Graph → List ℕ → List ℤ
clause_of mode g p = written_by (by_mode mode g.order) (pairs g.order) (entry_at g) p

-- ---- beginnings

-- won, lost or open as its walk ends: by rows along (1, 2) up to (1, k) for a beginning of length k below n, and along all pairs for one
-- of length n; by columns along all pairs of 1..k
abbrev pub judged : (mode : ℕ) → Graph → List ℕ → Judgement
judged mode g = Judging.judged (by_mode mode g.order) (entry_at g)

-- what the search finds within the budget
abbrev pub found : (mode : ℕ) → Graph → ℕ → Found
found mode g budget = Judging.found g.order (by_mode mode g.order) (block_of g.starts) (entry_at g) budget

-- the steps that it needs
abbrev pub steps_for : (mode : ℕ) → Graph → ℕ
steps_for mode g = Judging.steps_for g.order (by_mode mode g.order) (block_of g.starts) (entry_at g)

-- ---- the certificate

-- an arrangement as 32 numbers, zero after its last place
unfoldable pub padded : List ℕ → List ℕ
padded p = p ++ replicate (32 - length p) 0

-- the first arrangement in dictionary order that extends b
unfoldable pub certificate_of : Graph → List ℕ → List ℕ
certificate_of g b = padded (completed g.order (block_of g.starts) (g.order - length b) b)
