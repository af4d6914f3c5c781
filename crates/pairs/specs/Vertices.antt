-- Which numbers are orders, vertices, and pairs of two vertices.
use Rattle.std.specs.Prelude.{ℕ, Bool, not, leb, eqb}
use Rattle.laws.specs.Test.{both}

-- an order that a graph may have
unfoldable pub order_fits : ℕ → Bool
order_fits order = both (leb 1 order) (leb order 32)

-- v is a vertex of a graph of order n
unfoldable pub is_vertex : ℕ → ℕ → Bool
is_vertex n v = both (leb 1 v) (leb v n)

-- i and j are two of them
unfoldable pub is_pair : ℕ → ℕ → ℕ → Bool
is_pair n i j = both (is_vertex n i) (both (is_vertex n j) (not (eqb i j)))
