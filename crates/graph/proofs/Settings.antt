-- Setting an entry changes it in both halves, and nothing else; the graph stays well formed.
use Prim.Native.Nat.{ℕ, ◌-◌, ◌/◌, ◌%◌, ◌≤◌, ◌<◌}
use mathlib.Core.Path.{◌≡◌, refl, sym, ◌∙◌}
use mathlib.Core.Logic.{◌≢◌}
use mathlib.Core.List.{List}
use native.Mathlib.Omega.{arith}
use lib.ListN.{length, set, length-set}
use lib.Seq.{get_or-set_same, get_or-set_other}
use Rattle.laws.specs.Compared.{by_same}
use Rattle.laws.specs.Bit.{bit, with_bit}
use Rattle.laws.specs.BitLaws.{with_bit_same, with_bit_other}
use Rattle.graph.specs.declared.Graph.{Graph}
use Rattle.words.specs.Placed.{row}
use Rattle.rows.specs.Rows.{with_mark}
use Rattle.graph.specs.Graph.{entry, with_entry}
use Rattle.graph.specs.WellFormed.{WellFormed}
use Rattle.graph.proofs.Rows.{formed_by}

-- (a, c) is (i, j), or (j, i), or neither
by_pair : {A : Type 0} (a c i j : ℕ) → (a ≡ i → c ≡ j → A) → (a ≡ j → c ≡ i → A) → ((a ≡ i → c ≢ j) → (a ≡ j → c ≢ i) → A) → A
by_pair {A} a c i j same mirror other =
    by_same a i (λ ai. by_same c j (λ cj. same ai cj) (λ cj. reversed (λ e. cj))) (λ ai. reversed (λ e. absurd (ai e)))
  where
    reversed : (a ≡ i → c ≢ j) → A
    reversed n = by_same a j (λ aj. by_same c i (λ ci. mirror aj ci) (λ ci. other n (λ e. ci))) (λ aj. other n (λ e. absurd (aj e)))

-- ---- rows with both bits of (i, j) made b

module _ (rows : List ℕ) (i j b : ℕ) (long : length rows ≡ 32) (li : 1 ≤ i) (hi : i ≤ 32) (lj : 1 ≤ j) (hj : j ≤ 32) (apart : i ≢ j) (small : b ≤ 1) where
  marked_length : length (with_mark rows i j b) ≡ 32
  unfolding with_mark
  marked_length = simp length-set long

  marked_first : row (with_mark rows i j b) i ≡ with_bit (row rows i) (j - 1) b
  unfolding with_mark
  marked_first =
      get_or-set_other (set rows (i - 1) (with_bit (row rows i) (j - 1) b)) (j - 1) (i - 1) (with_bit (row rows j) (i - 1) b) 0 (omega arith)
      ∙ get_or-set_same rows (i - 1) (with_bit (row rows i) (j - 1) b) 0 (omega arith)

  marked_second : row (with_mark rows i j b) j ≡ with_bit (row rows j) (i - 1) b
  unfolding with_mark
  marked_second =
      get_or-set_same (set rows (i - 1) (with_bit (row rows i) (j - 1) b)) (j - 1) (with_bit (row rows j) (i - 1) b) 0
      (simp length-set (omega arith))

  -- the rows of other vertices stay
  marked_row : (a : ℕ) → 1 ≤ a → a ≢ i → a ≢ j → row (with_mark rows i j b) a ≡ row rows a
  unfolding with_mark
  marked_row a la ai aj =
      get_or-set_other (set rows (i - 1) (with_bit (row rows i) (j - 1) b)) (j - 1) (a - 1) (with_bit (row rows j) (i - 1) b) 0 (omega arith)
      ∙ get_or-set_other rows (i - 1) (a - 1) (with_bit (row rows i) (j - 1) b) 0 (omega arith)

  marked_same : bit (row (with_mark rows i j b) i) (j - 1) ≡ b
  marked_same = rw marked_first (with_bit_same (row rows i) (j - 1) b small)

  marked_mirror : bit (row (with_mark rows i j b) j) (i - 1) ≡ b
  marked_mirror = rw marked_second (with_bit_same (row rows j) (i - 1) b small)

  -- and so does each other bit
  marked_other : (a c : ℕ) → 1 ≤ a → 1 ≤ c → (a ≡ i → c ≢ j) → (a ≡ j → c ≢ i) → bit (row (with_mark rows i j b) a) (c - 1) ≡ bit (row rows a) (c - 1)
  marked_other a c la lc ij ji =
      by_same a i
      (λ e. rw (e, marked_first) (with_bit_other (row rows i) (j - 1) b (c - 1) small (let n : c ≢ j = ij e in omega arith)))
      (λ ai. by_same a j
      (λ e. rw (e, marked_second) (with_bit_other (row rows j) (i - 1) b (c - 1) small (let n : c ≢ i = ji e in omega arith)))
      (λ aj. rw (marked_row a la ai aj)))

-- ---- the graph with the entry at (i, j) made value

module _ (g : Graph) (w : WellFormed g) (i j value : ℕ) (li : 1 ≤ i) (hi : i ≤ g.order) (lj : 1 ≤ j) (hj : j ≤ g.order) (apart : i ≢ j) (known : value ≤ 2) where
  -- the order stays
  pub set_order : (with_entry g i j value).order ≡ g.order
  unfolding with_entry
  set_order = refl

  -- the starts stay
  pub set_starts : (with_entry g i j value).starts ≡ g.starts
  unfolding with_entry
  set_starts = refl

  -- the entry is the value
  pub set_entry : entry (with_entry g i j value) i j ≡ value
  unfolding with_entry
  set_entry =
      omega (
        arith,
        marked_same g.edges i j (value % 2) w.rows_of_edges li (omega arith) lj (omega arith) apart (omega arith),
        marked_same g.unknowns i j (value / 2) w.rows_of_unknowns li (omega arith) lj (omega arith) apart (omega arith),
      )

  -- in the other half too
  pub set_mirror : entry (with_entry g i j value) j i ≡ value
  unfolding with_entry
  set_mirror =
      omega (
        arith,
        marked_mirror g.edges i j (value % 2) w.rows_of_edges li (omega arith) lj (omega arith) apart (omega arith),
        marked_mirror g.unknowns i j (value / 2) w.rows_of_unknowns li (omega arith) lj (omega arith) apart (omega arith),
      )

  -- and every other entry stays
  pub set_other : (a c : ℕ) → 1 ≤ a → 1 ≤ c → (a ≡ i → c ≢ j) → (a ≡ j → c ≢ i) → entry (with_entry g i j value) a c ≡ entry g a c
  unfolding with_entry
  set_other a c la lc ij ji =
      omega (
        arith,
        marked_other g.edges i j (value % 2) w.rows_of_edges li (omega arith) lj (omega arith) apart (omega arith) a c la lc ij ji,
        marked_other g.unknowns i j (value / 2) w.rows_of_unknowns li (omega arith) lj (omega arith) apart (omega arith) a c la lc ij ji,
      )

  set_row : (a c : ℕ) → 1 ≤ a → a ≢ i → a ≢ j → entry (with_entry g i j value) a c ≡ entry g a c
  unfolding with_entry
  set_row a c la ai aj =
      rw (
        marked_row g.edges i j (value % 2) w.rows_of_edges li (omega arith) lj (omega arith) apart (omega arith) a la ai aj,
        marked_row g.unknowns i j (value / 2) w.rows_of_unknowns li (omega arith) lj (omega arith) apart (omega arith) a la ai aj,
      )

  set_symmetric : (a c : ℕ) → 1 ≤ a → a < c → c ≤ g.order → entry (with_entry g i j value) a c ≡ entry (with_entry g i j value) c a
  set_symmetric a c la l hc =
      by_pair a c i j (λ ai cj. rw (ai, cj) (set_entry ∙ sym set_mirror)) (λ aj ci. rw (aj, ci) (set_mirror ∙ sym set_entry))
      (λ ij ji. set_other a c la (omega arith) ij ji ∙ w.symmetric a c
      ∙ sym (set_other c a (omega arith) la (λ ci aj. ji aj ci) (λ cj ai. ij ai cj)))

  set_small : (a c : ℕ) → 1 ≤ a → 1 ≤ c → entry (with_entry g i j value) a c ≤ 2
  set_small a c la lc =
      by_pair a c i j (λ ai cj. rw (ai, cj, set_entry) known) (λ aj ci. rw (aj, ci, set_mirror) known)
      (λ ij ji. rw (set_other a c la lc ij ji) (w.not_both a c))

  -- the graph stays well formed
  pub set_formed : WellFormed (with_entry g i j value)
  unfolding with_entry
  set_formed =
      formed_by (with_entry g i j value) w.order_low w.order_high
      (marked_length g.edges i j (value % 2) w.rows_of_edges li (omega arith) lj (omega arith) apart (omega arith))
      (marked_length g.unknowns i j (value / 2) w.rows_of_unknowns li (omega arith) lj (omega arith) apart (omega arith))
      set_symmetric
      (λ a la ha. set_other a a la la (λ ai aj. apart (sym ai ∙ aj)) (λ aj ai. apart (sym ai ∙ aj)) ∙ w.no_loop a)
      (λ a c l. set_row a c (omega arith) (omega arith) (omega arith) ∙ w.symmetric a c ∙ w.none_past c a l)
      (λ a c la l. set_other a c la (omega arith) (λ ai. omega arith) (λ aj. omega arith) ∙ w.none_past a c l)
      (λ a c la ha lc hc. set_small a c la lc)
      w.first_starts w.no_start_past
