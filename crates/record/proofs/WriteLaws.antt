-- The bits and bytes of a record as the code finds them.
use Prim.Native.Nat.{ℕ, ◌+◌, ◌-◌, ◌/◌, ◌%◌, ◌^◌, ◌≤◌, ◌<◌}
use mathlib.Core.Path.{◌≡◌}
use mathlib.Core.Bool.{Bool, true, false}
use native.Mathlib.Omega.{arith}
use borrow.Author.Tests.{lt-ltb, le-ltb}
use lib.Dec.{ltb}
use Rattle.laws.specs.Test.{pick}
use Rattle.graph.specs.declared.Graph.{Graph}
use Rattle.record.specs.Layout.{entry_place, bit_count}
use Rattle.record.specs.Writing.{entry_bit, record_bit}

-- ---- the bit at a place

module _ (g : Graph) (k : ℕ) where
  -- the order comes first
  pub bit_of_order : k < 6 → g.order / 2 ^ (5 - k) % 2 ≡ record_bit g k
  unfolding record_bit pick
  bit_of_order h = rw (lt-ltb k 6 h)

  module _ (past : 6 ≤ k) (first : ℕ) (is_first : first ≡ entry_place g.order 1) where
    -- then the block starts
    pub bit_of_start : k < first → g.starts / 2 ^ (k - 5) % 2 ≡ record_bit g k
    unfolding record_bit pick
    bit_of_start h =
        let e : k - 6 + 2 - 1 ≡ k - 5 = omega arith in
        rw (le-ltb k 6 past, ← is_first, lt-ltb k first h, e)

    module _ (later : first ≤ k) (b : ℕ) (is_b : b ≡ bit_count g.order) where
      -- then the entries
      pub bit_of_entry : (r : ℕ) → k < b → r ≡ entry_bit g (k - first) → r ≡ record_bit g k
      unfolding record_bit pick
      bit_of_entry r h is_r = rw (le-ltb k 6 past, ← is_first, le-ltb k first later, ← is_b, lt-ltb k b h) is_r

      -- then zeros
      pub bit_of_pad : b ≤ k → 0 ≡ record_bit g k
      unfolding record_bit pick
      bit_of_pad h = rw (le-ltb k 6 past, ← is_first, le-ltb k first later, ← is_b, le-ltb k b h)

-- a choice of two bits is a bit
small_pick : (t : Bool) (x y : ℕ) → x < 2 → y < 2 → pick t x y < 2
unfolding pick
small_pick true x y h l = h
small_pick false x y h l = l

-- a bit of a record is 0 or 1
pub record_bit_small : (g : Graph) (k : ℕ) → record_bit g k < 2
unfolding record_bit entry_bit
record_bit_small g k =
    small_pick (ltb k 6) _ _ (omega arith)
    (small_pick (ltb k (entry_place g.order 1)) _ _ (omega arith) (small_pick (ltb k (bit_count g.order)) _ _ (omega arith) (omega arith)))
