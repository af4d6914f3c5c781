-- The first places of an arrangement as masks of vertices.
use Prim.Native.Nat.{ℕ, ◌+◌, ◌-◌, ◌^◌, ◌≤◌, ◌<◌}
use native.Mathlib.Omega.{arith}
use mathlib.Core.Path.{◌≡◌, sym, ◌∙◌}
use mathlib.Core.Logic.{◌≢◌}
use mathlib.Core.Bool.{Bool, true, false}
use mathlib.Core.List.{List}
use lib.Bits.{bit_or}
use lib.ListN.{get_or}
use lib.Dec.{eqb}
use borrow.Author.Tests.{eq-eqb, ne_eqb}
use Rattle.laws.specs.Compared.{by_same}
use Rattle.laws.specs.Bit.{bit}
use Rattle.laws.specs.BitLaws.{bit_of_or, bit_of_power}
use Rattle.laws.specs.Test.{pick}
use Rattle.laws.specs.TestLaws.{pick_true, pick_false}
use Rattle.arrangements.specs.Arrangement.{at, Reordering, is_reordering}
use Rattle.composing.specs.Composed.{inverse}
use Rattle.arrangements.proofs.Permits.{reordering_tested}
use Rattle.composing.proofs.Composing.{inverse_before, inverse_reordering}
use Rattle.turns.specs.Turns.{Within}
use Rattle.kinds.specs.Kinds.{place_before, FirstIn, Before, MaskedBy}

-- ---- the first places of a path

pub first_none : (p : List ℕ) → FirstIn 0 p 0
first_none p = record { has = λ i l h. absurd (omega arith) }

-- each of them holds a vertex
pub place_low : (p : List ℕ) (n i : ℕ) → Within n p → i < n → 1 ≤ get_or p i 0
place_low p n i w h = let s : i + 1 - 1 ≡ i = omega arith in rw s at (w.low (i + 1) (omega arith) (omega arith))

pub place_high : (p : List ℕ) (n i : ℕ) → Within n p → i < n → get_or p i 0 ≤ 32
place_high p n i w h = let s : i + 1 - 1 ≡ i = omega arith in rw s at (w.high (i + 1) (omega arith) (omega arith))

-- the place after them is added
pub first_more : (p : List ℕ) (i mask w : ℕ) → w ≡ 2 ^ (get_or p i 0 - 1) → FirstIn i p mask → FirstIn (i + 1) p (bit_or mask w)
first_more p i mask w e f =
    record {
      has = λ k l h.
          bit_of_or mask w (at p k - 1)
          ∙ by_same k (i + 1)
          (λ (q : k ≡ i + 1).
          let s : k - 1 ≡ i = omega arith in
          let b : bit w (at p k - 1) ≡ 1 = rw (e, s) (bit_of_power (get_or p i 0 - 1)) in
          omega arith)
          (λ (q : k ≢ i + 1). let b = f.has k l (omega arith) in omega arith);
    }

pub first_done : (p : List ℕ) (m n mask : ℕ) → FirstIn m p mask → n ≤ m → FirstIn n p mask
first_done p m n mask f h = record { has = λ k l u. f.has k l (omega arith) }

-- ---- up to the winning pair

-- the place before its row, by columns before its column
module _ (mode row column : ℕ) where
  pub place_before_column : mode ≡ 2 → column - 1 ≡ place_before mode row column
  unfolding place_before
  place_before_column e = sym (pick_true (eqb mode 2) (column - 1) (row - 1) (eq-eqb mode 2 e))

  pub place_before_row : mode ≢ 2 → row - 1 ≡ place_before mode row column
  unfolding place_before
  place_before_row d = sym (pick_false (eqb mode 2) (column - 1) (row - 1) (ne_eqb mode 2 d))

-- the places up to one that is not past n hold vertices
module _ (n : ℕ) (p : List ℕ) (r : Reordering n p) (small : n ≤ 32) where
  within_upto : (d : ℕ) → d ≤ n → Within d p
  within_upto d h = record { low = λ i l m. r.low i l (omega arith); high = λ i l m. omega (arith, r.high i l (omega arith)) }

  module _ (row column : ℕ) (rising : row < column) (high : column ≤ n) where
    before_high : (mode d : ℕ) → d ≡ place_before mode row column → d ≤ n
    unfolding place_before pick
    before_high mode d = at (eqb mode 2)
      where
        at : (b : Bool) → d ≡ pick b (column - 1) (row - 1) → d ≤ n
        at true e = omega arith
        at false e = omega arith

    pub before_fits : (mode d : ℕ) → d ≡ place_before mode row column → d ≤ 32
    before_fits mode d e = omega (arith, before_high mode d e)

    pub before_within : (mode d : ℕ) → d ≡ place_before mode row column → Within d p
    before_within mode d e = within_upto d (before_high mode d e)

    pub row_within : Within row p
    row_within = within_upto row (omega arith)

    pub column_within : Within column p
    column_within = within_upto column high

-- the inverse is a reordering
pub places_tested : (n : ℕ) (p q : List ℕ) → Reordering n p → q ≡ inverse n p → n ≤ 32 → is_reordering n q ≡ true
places_tested n p q r e small = rw e (reordering_tested n (inverse n p) (inverse_reordering n p r small))

-- as places of the vertices
first_before : (n d : ℕ) (p : List ℕ) (mask : ℕ) → Reordering n p → n ≤ 32 → FirstIn d p mask → Before n d (inverse n p) mask
first_before n d p mask r small f =
    record {
      has = λ j l h below.
          let s = inverse_reordering n p r small in
          rw (inverse_before n p r j l h) at (f.has (at (inverse n p) j) (s.low j l h) below);
    }

pub masked : (mode n row column d : ℕ) (p : List ℕ) (less at_row up : ℕ) → Reordering n p → n ≤ 32 → d ≡ place_before mode row column → FirstIn d p less → FirstIn row p at_row
    → FirstIn column p up → MaskedBy mode n row column (inverse n p) less at_row up
masked mode n row column d p less at_row up r small is a b c =
    record {
      less_has = first_before n (place_before mode row column) p less r small (rw is at a);
      row_has = first_before n row p at_row r small b;
      column_has = first_before n column p up r small c;
    }

pub masked_there : (mode n row column : ℕ) (p q : List ℕ) (less at_row up : ℕ) → q ≡ inverse n p → MaskedBy mode n row column (inverse n p) less at_row up → MaskedBy mode n row column q less at_row up
masked_there mode n row column p q less at_row up e m = rw e m
