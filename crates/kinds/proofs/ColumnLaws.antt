-- Which columns of a row are looked at when a clause is written: all at which something is written.
use Prim.Native.Nat.{ℕ, ◌+◌, ◌-◌, ◌/◌, ◌%◌, ◌^◌, ◌≤◌, ◌<◌, min, max}
use native.Mathlib.Omega.{arith}
use mathlib.Core.Path.{◌≡◌, ap, ◌∙◌}
use mathlib.Core.Logic.{⊎_elim}
use mathlib.Core.Bool.{Bool}
use mathlib.Core.List.{List}
use lib.Bits.{bit_and, bit_or}
use lib.Pow.{shr-shr}
use Rattle.laws.specs.Bit.{bit}
use Rattle.laws.specs.BitLaws.{bit_small, bits_past, below_of_bits, bit_of_and, bit_of_or}
use Rattle.laws.specs.Masks.{bit_of_without}
use Rattle.needed.specs.Settled.{up_to}
use Rattle.rows.specs.Rows.{entry_in}
use Rattle.words.specs.Placed.{row}
use Rattle.arrangements.specs.Arrangement.{at}
use Rattle.pairs.specs.Pairs.{pair}
use Rattle.plain.specs.Plain.{image}
use Rattle.plain.specs.Before.{before_in}
use Rattle.turns.specs.Turns.{all_marks}
use Rattle.kinds.specs.Kinds.{kind_at, place_before, MaskedBy, Firsts, SourcesBy, Ahead}
use Rattle.kinds.proofs.KindLaws.{WrittenEdge, WrittenGap, kind_some}
use Rattle.kinds.proofs.ReachedLaws.{low_bits}

-- ---- the columns of a row

no_high_bits : (n k : ℕ) → n ≤ 32 → n ≤ k → bit (all_marks / 2 ^ (32 - n)) k ≡ 0
no_high_bits n k small h = ap (λ (x : ℕ). x % 2) (shr-shr all_marks (32 - n) k) ∙ bits_past all_marks 32 (32 - n + k) (omega arith) (omega arith)

-- those after i of a mask
module _ (n i mask : ℕ) (small : n ≤ 32) where
  abbrev pub after : ℕ
  after = bit_and mask (all_marks / 2 ^ (32 - n)) / 2 ^ i

  after_bit : (d : ℕ) → bit after d ≡ min (bit mask (i + d)) (bit (all_marks / 2 ^ (32 - n)) (i + d))
  after_bit d = ap (λ (x : ℕ). x % 2) (shr-shr (bit_and mask (all_marks / 2 ^ (32 - n))) i d) ∙ bit_of_and mask (all_marks / 2 ^ (32 - n)) (i + d)

  pub after_fits : after < 2 ^ (n + 1 - (i + 1))
  after_fits = below_of_bits after (n + 1 - (i + 1)) (λ d h. after_bit d ∙ omega (arith, no_high_bits n (i + d) small (omega arith)))

  after_has : (d : ℕ) → i + d < n → bit mask (i + d) ≡ 1 → bit after d ≡ 1
  after_has d h b = after_bit d ∙ omega (arith, low_bits n (i + d) small h)

-- the columns that are looked at: nothing is written at another one
module _ (mode : ℕ) (e x q : List ℕ) (r c n i u less at_row up first source ones gaps doubts rest : ℕ) (small : n ≤ 32) (masks : MaskedBy mode n r c q less at_row up) (low : 1 ≤ i) (place : u ≡ at q i) (f : Firsts (before_in mode) (pair r c) i first)
    (s : SourcesBy (before_in mode) (place_before mode r c) r c u less at_row up source) (edges : ones ≡ row e i) (edgeless : gaps ≡ source - bit_and source ones) (unknown : doubts ≡ row x i)
    (rests : rest ≡ bit_or (bit_and first ones) gaps - bit_and (bit_or (bit_and first ones) gaps) doubts) where
  looked_at : (k : ℕ) → max (min (bit first k) (bit ones k)) (bit source k - bit ones k) ≡ 1 → bit doubts k ≡ 0 → bit rest k ≡ 1
  looked_at k m d =
      let g : bit gaps k ≡ bit source k - bit ones k = rw edgeless (bit_of_without source ones k) in
      rw rests (bit_of_without (bit_or (bit_and first ones) gaps) doubts k ∙ omega (arith, bit_of_or (bit_and first ones) gaps k, bit_of_and first ones k))

  module _ (pair_out image_out : Bool) (j : ℕ) (low' : 1 ≤ j) (high : j ≤ n) where
    known : (y : ℕ) → entry_in e x i j ≡ y → y ≤ 1 → (bit ones (j - 1) ≡ y) × (bit doubts (j - 1) ≡ 0)
    known y k m = rw (edges, unknown) (omega (arith, bit_small (row e i) (j - 1), bit_small (row x i) (j - 1)), omega (arith, bit_small (row e i) (j - 1), bit_small (row x i) (j - 1)))

    edge_looked_at : WrittenEdge (entry_in e x i j) (before_in mode (pair i j) (image q (pair i j))) (up_to (before_in mode) pair_out (pair r c) (pair i j)) → bit rest (j - 1) ≡ 1
    edge_looked_at m =
        let k = known 1 m.edge (omega arith) in
        looked_at (j - 1) (omega (arith, k.0, f.has pair_out j low' (omega arith) m.reaches, bit_small source (j - 1))) k.1

    gap_looked_at : WrittenGap (entry_in e x i j) (before_in mode (image q (pair i j)) (pair i j)) (up_to (before_in mode) image_out (pair r c) (image q (pair i j))) → bit rest (j - 1) ≡ 1
    gap_looked_at m =
        let k = known 0 m.gap (omega arith) in
        looked_at (j - 1) (omega (arith, k.0, (s.are n q small masks.less_has masks.row_has masks.column_has).has image_out j low' high (rw place m.reaches), bit_small first (j - 1))) k.1

  pub columns_ahead : (pair_out image_out : Bool) → Ahead (kind_at (before_in mode) e x q (pair r c) pair_out image_out) n i (i + 1) (bit_and rest (all_marks / 2 ^ (32 - n)) / 2 ^ i)
  unfolding kind_at
  columns_ahead pair_out image_out =
      record {
        has = λ d high z.
            let j : ℕ = i + 1 + d in
            let index : i + 1 + d - 1 ≡ i + d = omega arith in
            after_has n i rest small d (omega arith)
            (rw index
            at
            (⊎_elim (edge_looked_at pair_out image_out j (omega arith) high) (gap_looked_at pair_out image_out j (omega arith) high)
            (kind_some (entry_in e x i j) (before_in mode (pair i j) (image q (pair i j))) (up_to (before_in mode) pair_out (pair r c) (pair i j)) (before_in mode (image q (pair i j)) (pair i j)) (up_to (before_in mode) image_out (pair r c) (image q (pair i j))) z)));
      }
