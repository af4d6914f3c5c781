-- A graph drawn from a table of entries has these entries and is well formed, and every well-formed graph is drawn from its own.
use Prim.Native.Nat.{ℕ, ◌-◌, ◌/◌, ◌%◌, ◌≤◌, ◌<◌}
use mathlib.Core.Path.{◌≡◌, sym, ap, ap₂, ◌∙◌}
use mathlib.Core.List.{List}
use native.Mathlib.Omega.{arith}
use Rattle.laws.specs.Compared.{by_below}
use Rattle.laws.specs.BitLaws.{bit_of_zero}
use Rattle.laws.specs.UpTo.{word_up_to}
use Rattle.laws.specs.UpToLaws.{word_bit, word_past, word_same, word_of_bits}
use Rattle.graph.specs.declared.Graph.{Graph}
use Rattle.words.specs.Placed.{row}
use Rattle.rows.specs.Rows.{mirrored, start_at}
use Rattle.graph.specs.Graph.{entry, drawn}
use Rattle.graph.specs.WellFormed.{WellFormed}
use Rattle.words.proofs.Placed.{placed_length, placed_at, placed_past, placed_same, placed_of}
use Rattle.rows.proofs.Mirrored.{mirrored_loop, mirrored_symmetric, mirrored_small, mirrored_itself, mirrored_same}
use Rattle.graph.proofs.Rows.{edge_bit, unknown_bit, edges_below, unknowns_below, edges_past, unknowns_past, formed_by}

-- the row of edges of vertex i in the graph of order n drawn from e
abbrev pub edge_row : (ℕ → ℕ → ℕ) → ℕ → ℕ → ℕ
edge_row e n i = word_up_to (λ j. mirrored e i j % 2) n

-- and its row of unknowns
abbrev pub unknown_row : (ℕ → ℕ → ℕ) → ℕ → ℕ → ℕ
unknown_row e n i = word_up_to (λ j. mirrored e i j / 2) n

module _ (n starts : ℕ) (e : ℕ → ℕ → ℕ) where
  -- row i of its edges
  pub drawn_edges : (i : ℕ) → 1 ≤ i → i ≤ n → row (drawn n starts e).edges i ≡ edge_row e n i
  unfolding drawn
  drawn_edges i l h = placed_at (edge_row e n) n i l h

  -- row i of its unknowns
  pub drawn_unknowns : (i : ℕ) → 1 ≤ i → i ≤ n → row (drawn n starts e).unknowns i ≡ unknown_row e n i
  unfolding drawn
  drawn_unknowns i l h = placed_at (unknown_row e n) n i l h

  -- nothing stands in a row past the order
  pub drawn_past_row : (i j : ℕ) → n < i → entry (drawn n starts e) i j ≡ 0
  unfolding drawn
  drawn_past_row i j h = rw (placed_past (edge_row e n) n i h, placed_past (unknown_row e n) n i h) (omega (arith, bit_of_zero (j - 1)))

  module _ (small : (i j : ℕ) → 1 ≤ i → i < j → j ≤ n → e i j ≤ 3) where
    even_small : (i : ℕ) → 1 ≤ i → i ≤ n → (j : ℕ) → 1 ≤ j → j ≤ n → mirrored e i j % 2 ≤ 1
    even_small i li hi j lj hj = omega arith

    half_small : (i : ℕ) → 1 ≤ i → i ≤ n → (j : ℕ) → 1 ≤ j → j ≤ n → mirrored e i j / 2 ≤ 1
    half_small i li hi j lj hj = omega (arith, mirrored_small e 3 n small i j li hi lj hj)

    -- its entries are those of the table
    pub drawn_entry : (i j : ℕ) → 1 ≤ i → i ≤ n → 1 ≤ j → j ≤ n → entry (drawn n starts e) i j ≡ mirrored e i j
    drawn_entry i j li hi lj hj =
        rw (drawn_edges i li hi, drawn_unknowns i li hi)
        (omega (arith, word_bit (λ k. mirrored e i k % 2) n j (even_small i li hi) lj hj, word_bit (λ k. mirrored e i k / 2) n j (half_small i li hi) lj hj))

    -- nothing stands in a column past the order
    pub drawn_past_column : (i j : ℕ) → 1 ≤ i → i ≤ n → n < j → entry (drawn n starts e) i j ≡ 0
    drawn_past_column i j li hi h =
        rw (drawn_edges i li hi, drawn_unknowns i li hi)
        (omega (arith, word_past (λ k. mirrored e i k % 2) n j (even_small i li hi) h, word_past (λ k. mirrored e i k / 2) n j (half_small i li hi) h))

-- a graph drawn from entries up to 2 is well formed
pub drawn_formed : (n starts : ℕ) (e : ℕ → ℕ → ℕ) → 1 ≤ n → n ≤ 32 → start_at starts 1 ≡ 1 → ((v : ℕ) → n < v → start_at starts v ≡ 0)
    → ((i j : ℕ) → 1 ≤ i → i < j → j ≤ n → e i j ≤ 2) → WellFormed (drawn n starts e)
unfolding drawn
drawn_formed n starts e low high first past small =
    formed_by (drawn n starts e) low high (placed_length (edge_row e n) n high) (placed_length (unknown_row e n) n high)
    (λ i j li l hj. at i j li (omega arith) (omega arith) hj ∙ mirrored_symmetric e i j ∙ sym (at j i (omega arith) hj li (omega arith)))
    (λ i li hi. at i i li hi li hi ∙ mirrored_loop e i)
    (drawn_past_row n starts e)
    (λ i j li h. by_below n i (λ l. drawn_past_row n starts e i j l) (λ hi. drawn_past_column n starts e within i j li hi h))
    (λ i j li hi lj hj. omega (arith, at i j li hi lj hj, mirrored_small e 2 n small i j li hi lj hj))
    first past
  where
    within : (i j : ℕ) → 1 ≤ i → i < j → j ≤ n → e i j ≤ 3
    within i j li l hj = omega (arith, small i j li l hj)

    at : (i j : ℕ) → 1 ≤ i → i ≤ n → 1 ≤ j → j ≤ n → entry (drawn n starts e) i j ≡ mirrored e i j
    at = drawn_entry n starts e within

-- tables that agree above the diagonal draw the same graph
pub drawn_same : (n starts : ℕ) (e d : ℕ → ℕ → ℕ) → ((i j : ℕ) → 1 ≤ i → i < j → j ≤ n → e i j ≡ d i j) → drawn n starts e ≡ drawn n starts d
unfolding drawn
drawn_same n starts e d same =
    ap₂ {C = Graph} (λ (x y : List ℕ). record { order = n; edges = x; unknowns = y; starts = starts })
    (placed_same (edge_row e n) (edge_row d n) n
    (λ i li hi. word_same (λ j. mirrored e i j % 2) (λ j. mirrored d i j % 2) n (λ j lj hj. ap (λ (x : ℕ). x % 2) (mirrored_same e d n same i j li hi lj hj))))
    (placed_same (unknown_row e n) (unknown_row d n) n
    (λ i li hi. word_same (λ j. mirrored e i j / 2) (λ j. mirrored d i j / 2) n (λ j lj hj. ap (λ (x : ℕ). x / 2) (mirrored_same e d n same i j li hi lj hj))))

-- a well-formed graph is drawn from its own entries
pub drawn_itself : (g : Graph) → WellFormed g → drawn g.order g.starts (entry g) ≡ g
unfolding drawn
drawn_itself g w =
    ap₂ {C = Graph} (λ (x y : List ℕ). record { order = g.order; edges = x; unknowns = y; starts = g.starts })
    (placed_of (edge_row (entry g) g.order) g.order g.edges w.order_high w.rows_of_edges
    (λ i li hi. word_of_bits (λ j. mirrored (entry g) i j % 2) g.order (row g.edges i) (edges_below g w i)
    (λ j lj hj. ap (λ (x : ℕ). x % 2) (itself i j) ∙ sym (edge_bit g i j)))
    (edges_past g w))
    (placed_of (unknown_row (entry g) g.order) g.order g.unknowns w.order_high w.rows_of_unknowns
    (λ i li hi. word_of_bits (λ j. mirrored (entry g) i j / 2) g.order (row g.unknowns i) (unknowns_below g w i)
    (λ j lj hj. ap (λ (x : ℕ). x / 2) (itself i j) ∙ sym (unknown_bit g i j)))
    (unknowns_past g w))
  where
    itself : (i j : ℕ) → mirrored (entry g) i j ≡ entry g i j
    itself i j = mirrored_itself (entry g) i j (w.symmetric j i) (w.no_loop i)

-- so two well-formed graphs with the same order, starts and entries above the diagonal are equal
pub same_graph : (g h : Graph) → WellFormed g → WellFormed h → g.order ≡ h.order → g.starts ≡ h.starts
    → ((i j : ℕ) → 1 ≤ i → i < j → j ≤ g.order → entry g i j ≡ entry h i j) → g ≡ h
same_graph g h w v orders starts same =
    sym (drawn_itself g w) ∙ drawn_same g.order g.starts (entry g) (entry h) same
    ∙ ap₂ (λ (n s : ℕ). drawn n s (entry h)) orders starts ∙ drawn_itself h v
