-- The rows stand beside their columns exactly where every row fits.
use Prim.Native.Nat.{ℕ, suc, ◌+◌, ◌-◌, ◌*◌, ◌^◌, ◌≤◌, ◌<◌}
use native.Mathlib.Omega.{arith}
use native.Mathlib.Nat.{mod-lt, mod-eq_of_lt, lt_of_lt_of_le}
use mathlib.Core.Path.{◌≡◌, refl, sym, ap, ◌∙◌}
use mathlib.Core.Bool.{Bool, true, false}
use mathlib.Core.List.{List}
use lib.Dec.{leb}
use lib.Pow.{pow_pos, pow_mono}
use lib.Bits.{bit_and, bit_or, bit_xor, and_le_l, and_le_r, and_mask, or_lt, or_add_and, xor_add_and, xor_self}
use borrow.Author.Tests.{ltb-true, leb-true, eqb-true, lt-ltb, le-leb, eq-eqb}
use Rattle.laws.specs.Compared.{by_below, by_order, by_same}
use Rattle.laws.specs.Test.{pick}
use Rattle.laws.specs.TestLaws.{both_first, both_second, both_hold, same_test}
use Rattle.laws.specs.UpTo.{all_up_to}
use Rattle.laws.specs.UpToLaws.{all_at, all_hold}
use Rattle.laws.specs.Bit.{bit}
use Rattle.laws.specs.BitLaws.{bit_of_and, bit_of_or, bit_of_power, bit_of_power_other, bit_of_zero, bits_past, same_word, same_number}
use Rattle.words.specs.Placed.{row}
use Rattle.rows.specs.Rows.{entry_in}
use Rattle.rows.specs.Fits.{pair_fits, row_fits}
use Rattle.words.specs.Stage.{transposed}
use Rattle.words.proofs.TurnedRows.{transposed_below, turned}
use Rattle.rows.specs.Standing.{fault, row_fault, row_stands}
use Rattle.words.specs.declared.turned.Matrices.{Matrices}

-- ---- what a fault of 0 says

pub or_none : (a b : ℕ) → bit_or a b ≡ 0 → (a ≡ 0) × (b ≡ 0)
or_none a b h = (omega (arith, h, or_add_and a b, and_le_r a b), omega (arith, h, or_add_and a b, and_le_l a b))

xor_none : (a b : ℕ) → bit_xor a b ≡ 0 → a ≡ b
xor_none a b h = omega (arith, h, xor_add_and a b, and_le_l a b, and_le_r a b)

-- the five kinds of fault
module _ (e u f v diagonal inside : ℕ) where
  pub no_fault : fault e u f v diagonal inside ≡ 0
      → (e ≡ f) × (u ≡ v) × (bit_and e u ≡ 0) × (bit_and (bit_or e u) diagonal ≡ 0) × (bit_or e u - bit_and (bit_or e u) inside ≡ 0)
  unfolding fault
  no_fault h =
      let a = or_none _ (bit_or e u - bit_and (bit_or e u) inside) h in
      let b = or_none _ (bit_and (bit_or e u) diagonal) a.0 in
      let c = or_none _ (bit_and e u) b.0 in
      let d = or_none (bit_xor e f) (bit_xor u v) c.0 in
      (xor_none e f d.0, xor_none u v d.1, c.1, b.1, a.1)

  pub fault_none : e ≡ f → u ≡ v → bit_and e u ≡ 0 → bit_and (bit_or e u) diagonal ≡ 0 → bit_or e u - bit_and (bit_or e u) inside ≡ 0 → fault e u f v diagonal inside ≡ 0
  unfolding fault
  fault_none p q r s t = rw (s, t, r, ← p, ← q, xor_self e, xor_self u)

-- a word has nothing outside the lowest n bits exactly where it is below 2 ^ n
pub inside_below : (w n : ℕ) → w - bit_and w (2 ^ n - 1) ≡ 0 → w < 2 ^ n
inside_below w n h = omega (arith, h, and_mask w n, mod-lt w (pow_pos n))

pub below_inside : (w n : ℕ) → w < 2 ^ n → w - bit_and w (2 ^ n - 1) ≡ 0
below_inside w n h = omega (arith, and_mask w n, mod-eq_of_lt h)

-- and nothing on the diagonal where its bit is 0
pub bit_none : (w k : ℕ) → bit_and w (2 ^ k) ≡ 0 → bit w k ≡ 0
bit_none w k h =
    let z : bit (bit_and w (2 ^ k)) k ≡ 0 = ap (λ (x : ℕ). bit x k) h ∙ bit_of_zero k in
    omega (arith, z, bit_of_and w (2 ^ k) k, bit_of_power k)

pub none_bit : (w k : ℕ) → bit w k ≡ 0 → bit_and w (2 ^ k) ≡ 0
none_bit w k h =
    same_number (bit_and w (2 ^ k)) 0
    (λ j. bit_of_and w (2 ^ k) j ∙ by_same j k (λ q. rw q (omega (arith, h, bit_of_zero k))) (λ d. omega (arith, bit_of_power_other k j d, bit_of_zero j)))

-- ---- what the parts of the test say

module _ (order : ℕ) (e u : List ℕ) (h : order ≤ 32) where
  abbrev width : ℕ → ℕ
  width i = pick (leb i order) order 0

  width_small : (i : ℕ) → width i ≤ 32
  unfolding pick
  width_small i = by_test (leb i order)
    where
      by_test : (t : Bool) → pick t order 0 ≤ 32
      by_test true = h
      by_test false = omega arith

  abbrev standing : ℕ → Bool
  standing = row_stands order e u (transposed e) (transposed u)

  -- ---- rows that stand fit

  module _ (t : all_up_to standing 32 ≡ true) where
    parts : (i : ℕ) → 1 ≤ i → i ≤ 32 → (row e i ≡ row (transposed e) i) × (row u i ≡ row (transposed u) i) × (bit_and (row e i) (row u i) ≡ 0)
        × (bit_and (bit_or (row e i) (row u i)) (2 ^ (i - 1)) ≡ 0) × (bit_or (row e i) (row u i) - bit_and (bit_or (row e i) (row u i)) (2 ^ width i - 1) ≡ 0)
    unfolding row_stands row_fault
    parts i l m =
        no_fault (row e i) (row u i) (row (transposed e) i) (row (transposed u) i) (2 ^ (i - 1)) (2 ^ width i - 1)
        (eqb-true (row_fault order e u (transposed e) (transposed u) i) 0 (all_at standing 32 t i l m))

    mirrored : (i j : ℕ) → 1 ≤ i → i ≤ 32 → 1 ≤ j → j ≤ 32 → entry_in e u i j ≡ entry_in e u j i
    mirrored i j li hi lj hj =
        let x : bit (row e i) (j - 1) ≡ bit (row e j) (i - 1) = ap (λ (w : ℕ). bit w (j - 1)) (parts i li hi).0 ∙ turned e i j li hi lj hj in
        let y : bit (row u i) (j - 1) ≡ bit (row u j) (i - 1) = ap (λ (w : ℕ). bit w (j - 1)) (parts i li hi).1 ∙ turned u i j li hi lj hj in
        rw (x, y)

    small : (i j : ℕ) → 1 ≤ i → i ≤ 32 → entry_in e u i j ≤ 2
    small i j li hi =
        let z : bit (bit_and (row e i) (row u i)) (j - 1) ≡ 0 = ap (λ (w : ℕ). bit w (j - 1)) (parts i li hi).2 ∙ bit_of_zero (j - 1) in
        omega (arith, z, bit_of_and (row e i) (row u i) (j - 1))

    pub standing_fits : (i : ℕ) → 1 ≤ i → i ≤ 32 → row_fits order e u i ≡ true
    unfolding row_fits pair_fits
    standing_fits i li hi =
        let p = parts i li hi in
        let sum = or_add_and (row e i) (row u i) in
        let below = inside_below (bit_or (row e i) (row u i)) (width i) p.4 in
        both_hold _ _ (lt-ltb (row e i) (2 ^ width i) (omega (arith, below, sum, p.2)))
        (both_hold _ _ (lt-ltb (row u i) (2 ^ width i) (omega (arith, below, sum, p.2)))
        (both_hold _ _ (eq-eqb (entry_in e u i i) 0 (omega (arith, bit_none (bit_or (row e i) (row u i)) (i - 1) p.3, bit_of_or (row e i) (row u i) (i - 1))))
        (all_hold (pair_fits e u i) (i - 1)
        (λ j lj hj. both_hold _ _ (eq-eqb (entry_in e u i j) (entry_in e u j i) (mirrored i j li hi lj (omega arith))) (le-leb (entry_in e u i j) 2 (small i j li hi))))))

  -- ---- rows that fit stand

  module _ (t : all_up_to (row_fits order e u) 32 ≡ true) where
    fit : (i : ℕ) → 1 ≤ i → i ≤ 32 → (row e i < 2 ^ width i) × (row u i < 2 ^ width i) × (entry_in e u i i ≡ 0) × (all_up_to (pair_fits e u i) (i - 1) ≡ true)
    unfolding row_fits
    fit i l m =
        let a = all_at (row_fits order e u) 32 t i l m in
        let b = both_second _ _ a in
        let c = both_second _ _ b in (
          ltb-true (row e i) (2 ^ width i) (both_first _ _ a),
          ltb-true (row u i) (2 ^ width i) (both_first _ _ b),
          eqb-true (entry_in e u i i) 0 (both_first _ _ c),
          both_second _ _ c,
        )

    before : (i j : ℕ) → i ≤ 32 → 1 ≤ j → j < i → (entry_in e u i j ≡ entry_in e u j i) × (entry_in e u i j ≤ 2)
    unfolding pair_fits
    before i j hi lj l =
        let p = all_at (pair_fits e u i) (i - 1) (fit i (omega arith) hi).3 j lj (omega arith) in
        (eqb-true (entry_in e u i j) (entry_in e u j i) (both_first _ _ p), leb-true (entry_in e u i j) 2 (both_second _ _ p))

    pair : (i j : ℕ) → 1 ≤ i → i ≤ 32 → 1 ≤ j → j ≤ 32 → (entry_in e u i j ≡ entry_in e u j i) × (entry_in e u i j ≤ 2)
    pair i j li hi lj hj =
        by_order i j (λ l. let p = before j i hj li l in (sym p.0, omega (arith, p.0, p.1)))
        (λ q. rw q (refl, omega (arith, (fit j lj hj).2))) (λ l. before i j hi lj l)

    wide : (w i : ℕ) → w < 2 ^ width i → w < 2 ^ 32
    wide w i l = lt_of_lt_of_le l (pow_mono (width_small i))

    -- the rows of one kind are their columns
    agree : (rows : List ℕ) → ((i : ℕ) → 1 ≤ i → i ≤ 32 → row rows i < 2 ^ 32)
        → ((i j : ℕ) → 1 ≤ i → i ≤ 32 → 1 ≤ j → j ≤ 32 → bit (row rows i) (j - 1) ≡ bit (row rows j) (i - 1)) → (i : ℕ) → 1 ≤ i → i ≤ 32 → row rows i ≡ row (transposed rows) i
    agree rows below same i li hi =
        same_word 32 (row rows i) (row (transposed rows) i) (below i li hi) (transposed_below rows (i - 1) (omega arith))
        (λ j lj hj. same i j li hi lj hj ∙ sym (turned rows i j li hi lj hj))

    pub fits_standing : (i : ℕ) → 1 ≤ i → i ≤ 32 → standing i ≡ true
    unfolding row_stands row_fault
    fits_standing i li hi =
        let f = fit i li hi in
        let some = bit_or (row e i) (row u i) in
        eq-eqb (row_fault order e u (transposed e) (transposed u) i) 0
        (fault_none (row e i) (row u i) (row (transposed e) i) (row (transposed u) i) (2 ^ (i - 1)) (2 ^ width i - 1)
        (agree e (λ k l m. wide (row e k) k (fit k l m).0) (λ a b la ha lb hb. omega (arith, (pair a b la ha lb hb).0)) i li hi)
        (agree u (λ k l m. wide (row u k) k (fit k l m).1) (λ a b la ha lb hb. omega (arith, (pair a b la ha lb hb).0)) i li hi)
        apart
        (none_bit some (i - 1) (omega (arith, f.2, bit_of_or (row e i) (row u i) (i - 1))))
        (below_inside some (width i) (or_lt (width i) (row e i) (row u i) f.0 f.1)))
      where
        apart : bit_and (row e i) (row u i) ≡ 0
        apart =
            same_number (bit_and (row e i) (row u i)) 0
            (λ k. bit_of_and (row e i) (row u i) k
            ∙ by_below k 32
            (λ l. let place : suc k - 1 ≡ k = omega arith in
            let p : entry_in e u i (suc k) ≤ 2 = (pair i (suc k) li hi (omega arith) (omega arith)).1 in
            let q : bit (row e i) k + 2 * bit (row u i) k ≤ 2 = rw place at p in
            omega (arith, q, bit_of_zero k))
            (λ l. omega (arith, bits_past (row e i) 32 k (wide (row e i) i (fit i li hi).0) l, bit_of_zero k)))

  -- the rows stand exactly where every row fits
  pub stand_is_fit : all_up_to standing 32 ≡ all_up_to (row_fits order e u) 32
  stand_is_fit =
      same_test (all_up_to standing 32) (all_up_to (row_fits order e u) 32)
      (λ t. all_hold (row_fits order e u) 32 (standing_fits t)) (λ t. all_hold standing 32 (fits_standing t))

-- what the code answers
pub rows_stand_is : (order : ℕ) (e u : List ℕ) (columns : Matrices) (r : Bool) → order ≤ 32 → columns.edges ≡ transposed e → columns.unknowns ≡ transposed u
    → r ≡ all_up_to (row_stands order e u columns.edges columns.unknowns) 32 → r ≡ all_up_to (row_fits order e u) 32
rows_stand_is order e u columns r h p q s = s ∙ rw (p, q) (stand_is_fit order e u h)
