-- The record of a graph holds at each part's place what that part says.
use Prim.Native.Nat.{ℕ, suc, ◌+◌, ◌-◌, ◌*◌, ◌/◌, ◌%◌, ◌^◌, ◌≤◌, ◌<◌}
use mathlib.Core.Path.{◌≡◌, refl, sym, ap, ap₂, ◌∙◌}
use mathlib.Core.List.{List, ◌++◌}
use native.Mathlib.Omega.{arith}
use lib.ListN.{length, get_or, get_or-append}
use Rattle.laws.specs.Bit.{bit}
use Rattle.laws.specs.UpToLaws.{list_length, list_at}
use Rattle.laws.specs.Num.{num, num_own, num_bit}
use Rattle.graph.specs.declared.Graph.{Graph}
use Rattle.rows.specs.Rows.{start_at}
use Rattle.pairs.specs.Pairs.{pair_count, pair_of}
use Rattle.graph.specs.Counts.{entry_at}
use Rattle.record.specs.Layout.{start_place, entry_place, bit_count, byte_count}
use Rattle.fields.specs.Bits.{bit_of}
use Rattle.record.specs.Reading.{order_in, numbered_in}
use Rattle.record.specs.Writing.{entry_bit, record_bit, record_byte, record_of}
use Rattle.record.proofs.WriteLaws.{record_bit_small, bit_of_order, bit_of_start, bit_of_entry, bit_of_pad}

-- every part stands before the end of the last byte
pub bits_in_bytes : (n : ℕ) → bit_count n ≤ 8 * byte_count n
unfolding byte_count
bits_in_bytes n = omega arith

-- an entry by its two bits
two_bits : (e : ℕ) → e ≤ 3 → 2 * (0 + bit e 1) + bit e 0 ≡ e
two_bits e h = omega arith

module _ (g : Graph) where
  -- the order
  pub order_held : g.order < 2 ^ 6 → order_in (record_bit g) ≡ g.order
  unfolding order_in
  order_held h =
      num_own (record_bit g) 0 6 g.order h
      (λ t l. let e : 0 + t ≡ t = omega arith in rw e (sym (bit_of_order g t l)))

  -- the block start of a vertex from 2 on
  pub start_held : (v : ℕ) → 2 ≤ v → v ≤ g.order → record_bit g (start_place v) ≡ start_at g.starts v
  start_held v l h =
      let e : 6 + (v - 2) - 5 ≡ v - 1 = omega arith in
      sym (bit_of_start g (start_place v) (omega arith) (entry_place g.order 1) refl (omega arith)) ∙ ap (λ (k : ℕ). bit g.starts k) e

  -- the bits of the entries
  entry_bit_held : (t : ℕ) → 1 ≤ g.order → t < 2 * pair_count g.order → record_bit g (entry_place g.order 1 + t) ≡ entry_bit g t
  unfolding bit_count
  entry_bit_held t low h =
      let k : ℕ = entry_place g.order 1 + t in
      let e : k - entry_place g.order 1 ≡ t = omega arith in
      sym
      (bit_of_entry g k (omega arith) (entry_place g.order 1) refl (omega arith) (bit_count g.order) refl (entry_bit g t) (omega arith)
      (ap (entry_bit g) (sym e)))

  -- bit d of the entry of the pair with number m
  numbered_bit_held : (m d : ℕ) → 1 ≤ g.order → 1 ≤ m → m ≤ pair_count g.order → d < 2
      → record_bit g (entry_place g.order m + d) ≡ bit (entry_at g (pair_of g.order m)) (1 - d)
  unfolding entry_bit
  numbered_bit_held m d low l h small =
      let t : ℕ = 2 * (m - 1) + d in
      let place : entry_place g.order m + d ≡ entry_place g.order 1 + t = omega arith in
      let which : t / 2 + 1 ≡ m = omega arith in
      let part : t % 2 ≡ d = omega arith in
      ap (record_bit g) place ∙ entry_bit_held t low (omega arith)
      ∙ ap₂ (λ (x y : ℕ). bit (entry_at g (pair_of g.order x)) (1 - y)) which part

  -- the entry of the pair with number m
  pub entry_held : (m : ℕ) → 1 ≤ g.order → 1 ≤ m → m ≤ pair_count g.order → numbered_in (record_bit g) g.order m ≡ entry_at g (pair_of g.order m)
  unfolding numbered_in num
  entry_held m low l h =
      rw (numbered_bit_held m 0 low l h (omega arith), numbered_bit_held m 1 low l h (omega arith))
      (two_bits (entry_at g (pair_of g.order m)) (omega arith))

  -- zeros after the last entry
  pub pad_held : (k : ℕ) → 1 ≤ g.order → bit_count g.order ≤ k → record_bit g k ≡ 0
  unfolding bit_count
  pad_held k low h = sym (bit_of_pad g k (omega arith) (entry_place g.order 1) refl (omega arith) (bit_count g.order) refl h)

  -- ---- the bytes

  -- there are as many as the order asks
  pub record_length : length (record_of g) ≡ byte_count g.order
  unfolding record_of
  record_length = list_length (record_byte g) (byte_count g.order)

  -- each holds eight bits
  pub byte_held : (k : ℕ) → k < byte_count g.order → get_or (record_of g) k 0 ≡ num (record_bit g) (8 * k) 8
  unfolding record_of record_byte
  byte_held k h =
      let e : suc k - 1 ≡ k = omega arith in
      rw e at (list_at (record_byte g) (byte_count g.order) (suc k) 0 (omega arith) h)

  -- the bits of the bytes are those of the record, whatever follows
  pub bits_held : (after : List ℕ) (k : ℕ) → k < 8 * byte_count g.order → bit_of (record_of g ++ after) k ≡ record_bit g k
  unfolding bit_of
  bits_held after k h =
      let e : 8 * (k / 8) + k % 8 ≡ k = omega arith in
      rw (get_or-append (record_of g) after 0 (k / 8) (omega (arith, record_length)), byte_held (k / 8) (omega arith))
      (num_bit (record_bit g) (record_bit_small g) (8 * (k / 8)) 8 (k % 8) (omega arith) ∙ ap (record_bit g) e)
