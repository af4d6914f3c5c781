-- A block is a run of ones in its mask, from its start to the next one.
use Prim.Native.Nat.{ℕ, ◌+◌, ◌-◌, ◌*◌, ◌/◌, ◌%◌, ◌^◌, ◌≤◌, ◌<◌, max}
use native.Mathlib.Nat.{lt_of_lt_of_le}
use native.Mathlib.Omega.{arith}
use mathlib.Core.Path.{◌≡◌, sym, ap, ◌∙◌}
use mathlib.Core.Logic.{◌≢◌}
use lib.Bits.{bit_or}
use lib.Count.{count_trailing_zeros}
use lib.Dec.{eqb}
use lib.Pow.{pow_pos, pow_mono, shr-shr, shl_lt, shl_exact}
use mir.Syntax.{w32}
use mir.Val.{Fits}
use borrow.Author.Tests.{eq-eqb, ne_eqb}
use Rattle.laws.specs.Compared.{by_below}
use Rattle.laws.specs.Test.{pick}
use Rattle.laws.specs.TestLaws.{pick_true, pick_false}
use Rattle.laws.specs.Bit.{bit}
use Rattle.laws.specs.BitLaws.{bit_small, bit_of_zero, bits_past, below_of_bits, same_word, bit_of_low, bit_of_high, bit_of_or, bit_of_power, bit_of_power_other}
use Rattle.laws.specs.Masks.{not_empty, lowest_set}
use Rattle.rows.specs.Rows.{block_of, start_at}
use Rattle.arrangements.proofs.Blocks.{one_block}
use Rattle.arrangements.specs.Arrangement.{NoStart}
use Rattle.turns.specs.Turns.{all_marks}
use Rattle.exploring.specs.Masks.{block_mask, Fresh}
use Rattle.turns.proofs.Ones.{all_bits}
use Rattle.exploring.proofs.MaskLaws.{lowest_least, shifted, block_bit, block_below}

-- ---- k + 1 ones

abbrev ones : ℕ → ℕ
ones k = all_marks / 2 ^ (31 - k)

ones_bit : (k d : ℕ) → k ≤ 31 → d ≤ k → bit (ones k) d ≡ 1
ones_bit k d a b = ap (λ (x : ℕ). x % 2) (shr-shr all_marks (31 - k) d) ∙ all_bits (31 - k + d) (omega arith)

ones_past : (k d : ℕ) → k ≤ 31 → k < d → bit (ones k) d ≡ 0
ones_past k d a b = ap (λ (x : ℕ). x % 2) (shr-shr all_marks (31 - k) d) ∙ bits_past all_marks 32 (31 - k + d) (omega arith) (omega arith)

ones_below : (k : ℕ) → k ≤ 31 → ones k < 2 ^ (k + 1)
ones_below k a = below_of_bits (ones k) (k + 1) (λ d h. ones_past k d a (omega arith))

-- moved up by i
module _ (w i : ℕ) where
  moved_low : (j : ℕ) → j < i → bit (w * 2 ^ i) j ≡ 0
  moved_low j l = let z : w * 2 ^ i + 0 ≡ w * 2 ^ i = omega arith in (rw z at (bit_of_low j i w 0 l)) ∙ bit_of_zero j

  moved_high : (j : ℕ) → bit (w * 2 ^ i) (i + j) ≡ bit w j
  moved_high j = let z : w * 2 ^ i + 0 ≡ w * 2 ^ i = omega arith in rw z at (bit_of_high j i w 0 (pow_pos i))

-- ---- the block that place i + 1 begins

module _ (starts n i power k : ℕ) (small : n ≤ 32) (more : i < n) (fits : Fits w32 starts) (fresh : Fresh starts i) (p : power ≡ 2 ^ (n - i - 1))
    (is_lowest : k ≡ count_trailing_zeros 32 (bit_or (starts / 2 ^ i / 2 ^ 1) power)) where
  abbrev later : ℕ
  later = bit_or (starts / 2 ^ i / 2 ^ 1) power

  later_bit : (d : ℕ) → bit later d ≡ max (bit starts (i + (1 + d))) (bit power d)
  later_bit d = bit_of_or (starts / 2 ^ i / 2 ^ 1) power d ∙ ap (λ (x : ℕ). max x (bit power d)) (shifted starts i d)

  -- there is a bit for the last place
  last_bit : bit later (n - i - 1) ≡ 1
  last_bit =
      let b : bit power (n - i - 1) ≡ 1 = rw p (bit_of_power (n - i - 1)) in
      omega (arith, later_bit (n - i - 1), bit_small starts (i + (1 + (n - i - 1))))

  later_some : later ≢ 0
  later_some e = omega (arith, last_bit, ap (λ (x : ℕ). bit x (n - i - 1)) e, bit_of_zero (n - i - 1))

  later_fits : later < 2 ^ 32
  later_fits =
      below_of_bits later 32
      (λ d h.
      let a = bits_past starts 32 (i + (1 + d)) fits.fits (omega arith) in
      let b : bit power d ≡ 0 = rw p (bit_of_power_other (n - i - 1) d (λ q. omega arith)) in
      later_bit d ∙ omega arith)

  least : (d : ℕ) → d < k → bit later d ≢ 1
  least = lowest_least later 32 k is_lowest later_fits (omega arith) later_some

  -- the run ends at n or before
  run_end : k ≤ n - i - 1
  run_end = by_below (n - i - 1) k (λ l. absurd (least (n - i - 1) l last_bit)) (λ l. l)

  pub run_short : k ≤ 31
  run_short = omega (arith, run_end)

  -- no start lies in it
  no_start : NoStart starts (i + 1) (i + 1 + k)
  no_start w a b =
      let e : w - 1 ≡ i + (1 + (w - i - 2)) = omega arith in
      let z = least (w - i - 2) (omega arith) in
      rw e (omega (arith, later_bit (w - i - 2), bit_small starts (i + (1 + (w - i - 2))), bit_small power (w - i - 2)))

  -- and one lies after it, where it ends before n
  start_after : k < n - i - 1 → start_at starts (i + 2 + k) ≡ 1
  start_after l =
      let e : i + 2 + k - 1 ≡ i + (1 + k) = omega arith in
      let b : bit power k ≡ 0 = rw p (bit_of_power_other (n - i - 1) k (λ q. omega arith)) in
      let s = lowest_set later 32 k is_lowest later_fits (omega arith) (not_empty later later_some) in
      rw e (omega (arith, later_bit k))

  module _ (v : ℕ) where
    together : i < v → v ≤ i + 1 + k → block_of starts v ≡ block_of starts (i + 1)
    together a b = sym ((one_block starts (i + 1) v (omega arith)).1 (λ w l h. no_start w l (omega arith)))

    apart : i + 1 + k < v → v ≤ n → block_of starts v ≢ block_of starts (i + 1)
    apart a b e =
        omega (arith, start_after (omega arith), (one_block starts (i + 1) v (omega arith)).0 (sym e) (i + 2 + k) (omega arith) (omega arith))

    in_block : block_of starts v ≡ block_of starts (i + 1) → pick {A = ℕ} (eqb (block_of starts v) (block_of starts (i + 1))) 1 0 ≡ 1
    in_block e = pick_true (eqb (block_of starts v) (block_of starts (i + 1))) 1 0 (eq-eqb (block_of starts v) (block_of starts (i + 1)) e)

    not_in_block : block_of starts v ≢ block_of starts (i + 1) → pick {A = ℕ} (eqb (block_of starts v) (block_of starts (i + 1))) 1 0 ≡ 0
    not_in_block d = pick_false (eqb (block_of starts v) (block_of starts (i + 1))) 1 0 (ne_eqb (block_of starts v) (block_of starts (i + 1)) d)

    -- which places the run has
    in_run : 1 ≤ v → v ≤ n → bit (ones k * 2 ^ i) (v - 1) ≡ pick (eqb (block_of starts v) (block_of starts (i + 1))) 1 0
    in_run l h =
        by_below i v
        (λ (a : i < v).
        let e : v - 1 ≡ i + (v - 1 - i) = omega arith in
        ap (λ (x : ℕ). bit (ones k * 2 ^ i) x) e ∙ moved_high (ones k) i (v - 1 - i)
        ∙ by_below (i + 1 + k) v (λ (b : i + 1 + k < v). ones_past k (v - 1 - i) run_short (omega arith) ∙ sym (not_in_block (apart b h)))
        (λ (b : v ≤ i + 1 + k). ones_bit k (v - 1 - i) run_short (omega arith) ∙ sym (in_block (together a b))))
        (λ (a : v ≤ i). moved_low (ones k) i (v - 1) (omega arith) ∙ sym (not_in_block (fresh.apart v l a)))

  run_fits : k + 1 + i ≤ n
  run_fits = omega (arith, run_end)

  pub run_is : ones k * 2 ^ i % 2 ^ 32 ≡ block_mask (block_of starts) n (i + 1)
  run_is =
      shl_exact (k + 1) i 32 (ones_below k run_short) (omega (arith, run_fits))
      ∙ same_word n (ones k * 2 ^ i) (block_mask (block_of starts) n (i + 1)) (lt_of_lt_of_le (shl_lt (k + 1) i (ones_below k run_short)) (pow_mono run_fits))
      (block_below (block_of starts) n (i + 1)) (λ v l h. in_run v l h ∙ sym (block_bit (block_of starts) n (i + 1) v l h))
