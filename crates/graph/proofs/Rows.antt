-- The rows of a well-formed graph, and what makes a graph well formed.
use Prim.Native.Nat.{ℕ, zero, suc, ◌-◌, ◌/◌, ◌%◌, ◌^◌, ◌≤◌, ◌<◌}
use mathlib.Core.Path.{◌≡◌, sym, ◌∙◌}
use native.Mathlib.Omega.{arith}
use lib.ListN.{length}
use Rattle.laws.specs.Compared.{by_below, by_order}
use Rattle.laws.specs.Bit.{bit}
use Rattle.laws.specs.BitLaws.{below_of_bits}
use Rattle.graph.specs.declared.Graph.{Graph}
use Rattle.words.specs.Placed.{row}
use Rattle.rows.specs.Rows.{start_at}
use Rattle.graph.specs.Graph.{entry}
use Rattle.graph.specs.WellFormed.{WellFormed}

-- an edge's bit is 1 where the entry is 1
pub edge_bit : (g : Graph) (i j : ℕ) → bit (row g.edges i) (j - 1) ≡ entry g i j % 2
edge_bit g i j = omega arith

-- an unknown's bit is 1 where the entry is 2
pub unknown_bit : (g : Graph) (i j : ℕ) → bit (row g.unknowns i) (j - 1) ≡ entry g i j / 2
unknown_bit g i j = omega arith

-- a number with no bit for a vertex past n is below 2 ^ n
pub below_of_vertices : (w n : ℕ) → ((j : ℕ) → n < j → bit w (j - 1) ≡ 0) → w < 2 ^ n
below_of_vertices w n none =
    below_of_bits w n (λ k l. let place : suc k - 1 ≡ k = omega arith in rw place at (none (suc k) (omega arith)))

module _ (g : Graph) (w : WellFormed g) where
  past_row : (i j : ℕ) → g.order < i → entry g i j ≡ 0
  past_row i j h = w.symmetric i j ∙ w.none_past j i h

  -- a row of edges has no bit past the order
  pub edges_below : (i : ℕ) → row g.edges i < 2 ^ g.order
  edges_below i = below_of_vertices (row g.edges i) g.order (λ j h. omega (arith, w.none_past i j h))

  -- nor has a row of unknowns
  pub unknowns_below : (i : ℕ) → row g.unknowns i < 2 ^ g.order
  unknowns_below i = below_of_vertices (row g.unknowns i) g.order (λ j h. omega (arith, w.none_past i j h))

  -- the rows of edges past the order are zero
  pub edges_past : (i : ℕ) → g.order < i → row g.edges i ≡ 0
  edges_past i h =
      let none : row g.edges i < 2 ^ 0 = below_of_vertices (row g.edges i) 0 (λ j l. omega (arith, past_row i j h)) in
      omega arith

  -- and so are those of unknowns
  pub unknowns_past : (i : ℕ) → g.order < i → row g.unknowns i ≡ 0
  unknowns_past i h =
      let none : row g.unknowns i < 2 ^ 0 = below_of_vertices (row g.unknowns i) 0 (λ j l. omega (arith, past_row i j h)) in
      omega arith

  -- the starts have no bit past the order
  pub starts_below : g.starts < 2 ^ g.order
  starts_below = below_of_vertices g.starts g.order w.no_start_past

-- ---- vertex 0 reads as vertex 1, so what holds of the vertices from 1 on makes a graph well formed

module _ (g : Graph) (low : 1 ≤ g.order) (high : g.order ≤ 32) (le : length g.edges ≡ 32) (lu : length g.unknowns ≡ 32)
    (mirror : (i j : ℕ) → 1 ≤ i → i < j → j ≤ g.order → entry g i j ≡ entry g j i)
    (loop : (i : ℕ) → 1 ≤ i → i ≤ g.order → entry g i i ≡ 0)
    (past_rows : (i j : ℕ) → g.order < i → entry g i j ≡ 0)
    (past_columns : (i j : ℕ) → 1 ≤ i → g.order < j → entry g i j ≡ 0)
    (small : (i j : ℕ) → 1 ≤ i → i ≤ g.order → 1 ≤ j → j ≤ g.order → entry g i j ≤ 2)
    (first : start_at g.starts 1 ≡ 1)
    (starts_past : (v : ℕ) → g.order < v → start_at g.starts v ≡ 0) where
  symmetric₁ : (i j : ℕ) → 1 ≤ i → 1 ≤ j → entry g i j ≡ entry g j i
  symmetric₁ i j li lj =
      by_below g.order i (λ l. past_rows i j l ∙ sym (past_columns j i lj l))
      (λ hi. by_below g.order j (λ l. past_columns i j li l ∙ sym (past_rows j i l))
      (λ hj. by_order i j (λ l. mirror i j li l hj) (λ e. rw e) (λ l. sym (mirror j i lj l hi))))

  small₁ : (i j : ℕ) → 1 ≤ i → 1 ≤ j → entry g i j ≤ 2
  small₁ i j li lj =
      by_below g.order i (λ l. omega (arith, past_rows i j l))
      (λ hi. by_below g.order j (λ l. omega (arith, past_columns i j li l)) (λ hj. small i j li hi lj hj))

  loop₁ : (i : ℕ) → 1 ≤ i → entry g i i ≡ 0
  loop₁ i li = by_below g.order i (λ l. past_rows i i l) (λ hi. loop i li hi)

  symmetric₀ : (i j : ℕ) → entry g i j ≡ entry g j i
  symmetric₀ zero zero = symmetric₁ 1 1 (omega arith) (omega arith)
  symmetric₀ zero (suc j) = symmetric₁ 1 (suc j) (omega arith) (omega arith)
  symmetric₀ (suc i) zero = symmetric₁ (suc i) 1 (omega arith) (omega arith)
  symmetric₀ (suc i) (suc j) = symmetric₁ (suc i) (suc j) (omega arith) (omega arith)

  small₀ : (i j : ℕ) → entry g i j ≤ 2
  small₀ zero zero = small₁ 1 1 (omega arith) (omega arith)
  small₀ zero (suc j) = small₁ 1 (suc j) (omega arith) (omega arith)
  small₀ (suc i) zero = small₁ (suc i) 1 (omega arith) (omega arith)
  small₀ (suc i) (suc j) = small₁ (suc i) (suc j) (omega arith) (omega arith)

  loop₀ : (i : ℕ) → entry g i i ≡ 0
  loop₀ zero = loop₁ 1 (omega arith)
  loop₀ (suc i) = loop₁ (suc i) (omega arith)

  past₀ : (i j : ℕ) → g.order < j → entry g i j ≡ 0
  past₀ zero j h = past_columns 1 j (omega arith) h
  past₀ (suc i) j h = past_columns (suc i) j (omega arith) h

  -- so a graph is well formed
  pub formed_by : WellFormed g
  formed_by =
      record {
        order_low = low;
        order_high = high;
        rows_of_edges = le;
        rows_of_unknowns = lu;
        symmetric = symmetric₀;
        no_loop = loop₀;
        none_past = past₀;
        not_both = small₀;
        first_starts = first;
        no_start_past = starts_past;
      }
