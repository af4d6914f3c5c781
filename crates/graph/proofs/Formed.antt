-- The test `wellFormed` holds of a graph exactly where it is well formed.
use Prim.Native.Nat.{ℕ, ◌-◌, ◌^◌, ◌≤◌, ◌<◌}
use mathlib.Core.Path.{◌≡◌, sym}
use mathlib.Core.Bool.{true, false}
use native.Mathlib.Omega.{arith}
use lib.ListN.{length, get_or-eq_default}
use lib.Dec.{leb}
use borrow.Author.Tests.{ltb-true, leb-true, eqb-true, lt-ltb, le-leb, lt-leb, eq-eqb}
use Rattle.laws.specs.Compared.{by_below, by_order}
use Rattle.laws.specs.Test.{pick}
use Rattle.laws.specs.TestLaws.{both_first, both_second, both_hold, pick_true, pick_false, not_both_ways}
use Rattle.laws.specs.BitLaws.{bits_past, bit_of_zero}
use Rattle.laws.specs.UpToLaws.{all_at, all_hold}
use Rattle.graph.specs.declared.Graph.{Graph}
use Rattle.words.specs.Placed.{row}
use Rattle.rows.specs.Rows.{start_at}
use Rattle.graph.specs.Graph.{entry}
use Rattle.graph.specs.WellFormed.{WellFormed, well_formed}
use Rattle.pairs.proofs.VertexLaws.{order_in_range, order_tested}
use Rattle.rows.specs.Fits.{pair_fits, row_fits, starts_fit}
use Rattle.graph.proofs.Rows.{edges_below, unknowns_below, edges_past, unknowns_past, starts_below, formed_by}

-- ---- what the parts of the test say

module _ (g : Graph) (t : well_formed g ≡ true) where
  lengths : (length g.edges ≡ 32) × (length g.unknowns ≡ 32)
  unfolding well_formed
  lengths = let h = both_first _ _ t in (eqb-true (length g.edges) 32 (both_first _ _ h), eqb-true (length g.unknowns) 32 (both_second _ _ h))

  in_range : (1 ≤ g.order) × (g.order ≤ 32)
  unfolding well_formed
  in_range = order_in_range g.order (both_first _ _ (both_second _ _ t))

  starts_fit_lem : (start_at g.starts 1 ≡ 1) × (g.starts < 2 ^ g.order)
  unfolding well_formed starts_fit
  starts_fit_lem =
      let h = both_first _ _ (both_second _ _ (both_second _ _ t)) in
      (eqb-true (start_at g.starts 1) 1 (both_first _ _ h), ltb-true g.starts (2 ^ g.order) (both_second _ _ h))

  row_fits_lem : (i : ℕ) → 1 ≤ i → i ≤ 32 → row_fits g.order g.edges g.unknowns i ≡ true
  unfolding well_formed
  row_fits_lem i l h =
      all_at (row_fits g.order g.edges g.unknowns) 32 (both_second _ _ (both_second _ _ (both_second _ _ t))) i l h

  width : ℕ → ℕ
  width i = pick (leb i g.order) g.order 0

  row_widths : (i : ℕ) → 1 ≤ i → i ≤ 32 → (row g.edges i < 2 ^ width i) × (row g.unknowns i < 2 ^ width i)
  unfolding row_fits width
  row_widths i l h =
      let f = row_fits_lem i l h in
      (ltb-true _ _ (both_first _ _ f), ltb-true _ _ (both_first _ _ (both_second _ _ f)))

  loop : (i : ℕ) → 1 ≤ i → i ≤ g.order → entry g i i ≡ 0
  unfolding row_fits
  loop i l h = eqb-true (entry g i i) 0 (both_first _ _ (both_second _ _ (both_second _ _ (row_fits_lem i l (omega (arith, in_range.1))))))

  -- (j, i) with i before j
  pair_fits_lem : (i j : ℕ) → 1 ≤ i → i < j → j ≤ g.order → (entry g j i ≡ entry g i j) × (entry g j i ≤ 2)
  unfolding row_fits pair_fits
  pair_fits_lem i j l h m =
      let f = both_second _ _ (both_second _ _ (both_second _ _ (row_fits_lem j (omega arith) (omega (arith, in_range.1))))) in
      let p = all_at (pair_fits g.edges g.unknowns j) (j - 1) f i l (omega arith) in
      (eqb-true (entry g j i) (entry g i j) (both_first _ _ p), leb-true (entry g j i) 2 (both_second _ _ p))

  rows_past : (i : ℕ) → g.order < i → (row g.edges i ≡ 0) × (row g.unknowns i ≡ 0)
  unfolding width
  rows_past i h =
      by_below 32 i
      (λ l. (get_or-eq_default g.edges 0 (omega (arith, lengths.0)), get_or-eq_default g.unknowns 0 (omega (arith, lengths.1))))
      (λ l. let w = rw (pick_false (leb i g.order) g.order 0 (lt-leb i g.order h)) at (row_widths i (omega (arith, in_range.0)) l) in
      (omega (arith, w.0), omega (arith, w.1)))

  past_row : (i j : ℕ) → g.order < i → entry g i j ≡ 0
  past_row i j h = rw ((rows_past i h).0, (rows_past i h).1) (omega (arith, bit_of_zero (j - 1)))

  past_column : (i j : ℕ) → 1 ≤ i → g.order < j → entry g i j ≡ 0
  unfolding width
  past_column i j l h =
      by_below g.order i (λ m. past_row i j m)
      (λ m. let w = rw (pick_true (leb i g.order) g.order 0 (le-leb i g.order m)) at (row_widths i l (omega (arith, in_range.1))) in
      omega (arith, bits_past (row g.edges i) g.order (j - 1) w.0 (omega arith), bits_past (row g.unknowns i) g.order (j - 1) w.1 (omega arith)))

  small : (i j : ℕ) → 1 ≤ i → i ≤ g.order → 1 ≤ j → j ≤ g.order → entry g i j ≤ 2
  small i j li hi lj hj =
      by_order i j (λ l. rw (sym (pair_fits_lem i j li l hj).0) (pair_fits_lem i j li l hj).1) (λ e. rw e (omega (arith, loop j lj hj))) (λ l. (pair_fits_lem j i lj l hi).1)

  -- a graph that passes the test is well formed
  pub formed : WellFormed g
  formed =
      formed_by g in_range.0 in_range.1 lengths.0 lengths.1
      (λ i j li l hj. sym (pair_fits_lem i j li l hj).0) loop past_row past_column small starts_fit_lem.0
      (λ v h. bits_past g.starts g.order (v - 1) starts_fit_lem.1 (omega arith))

-- ---- the other way

module _ (g : Graph) (w : WellFormed g) where
  pair_tested : (i j : ℕ) → pair_fits g.edges g.unknowns i j ≡ true
  unfolding pair_fits
  pair_tested i j = both_hold _ _ (eq-eqb (entry g i j) (entry g j i) (w.symmetric i j)) (le-leb (entry g i j) 2 (w.not_both i j))

  row_tested : (i : ℕ) → row_fits g.order g.edges g.unknowns i ≡ true
  unfolding row_fits
  row_tested i =
      both_hold _ _ (lt-ltb _ _ edges) (both_hold _ _ (lt-ltb _ _ unknowns)
      (both_hold _ _ (eq-eqb (entry g i i) 0 (w.no_loop i)) (all_hold (pair_fits g.edges g.unknowns i) (i - 1) (λ j l h. pair_tested i j))))
    where
      edges : row g.edges i < 2 ^ pick (leb i g.order) g.order 0
      edges =
          by_below g.order i (λ l. rw (pick_false (leb i g.order) g.order 0 (lt-leb i g.order l)) (omega (arith, edges_past g w i l)))
          (λ l. rw (pick_true (leb i g.order) g.order 0 (le-leb i g.order l)) (edges_below g w i))

      unknowns : row g.unknowns i < 2 ^ pick (leb i g.order) g.order 0
      unknowns =
          by_below g.order i (λ l. rw (pick_false (leb i g.order) g.order 0 (lt-leb i g.order l)) (omega (arith, unknowns_past g w i l)))
          (λ l. rw (pick_true (leb i g.order) g.order 0 (le-leb i g.order l)) (unknowns_below g w i))

  -- a well-formed graph passes the test
  pub tested : well_formed g ≡ true
  unfolding well_formed starts_fit
  tested =
      both_hold _ _ (both_hold _ _ (eq-eqb (length g.edges) 32 w.rows_of_edges) (eq-eqb (length g.unknowns) 32 w.rows_of_unknowns))
      (both_hold _ _ (order_tested g.order w.order_low w.order_high)
      (both_hold _ _ (both_hold _ _ (eq-eqb (start_at g.starts 1) 1 w.first_starts) (lt-ltb g.starts (2 ^ g.order) (starts_below g w)))
      (all_hold (row_fits g.order g.edges g.unknowns) 32 (λ i l h. row_tested i))))

-- a graph that fails the test is not well formed
pub not_formed : (g : Graph) → well_formed g ≡ false → WellFormed g → ⊥
not_formed g f w = not_both_ways (well_formed g) (tested g w) f
