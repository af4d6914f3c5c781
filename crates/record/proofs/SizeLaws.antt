-- How long a record is.
use Prim.Native.Nat.{ℕ, zero, suc, ◌+◌, ◌-◌, ◌*◌, ◌/◌, ◌≤◌}
use mathlib.Core.Path.{◌≡◌, refl, ap}
use native.Mathlib.Nat.{mul-le-mul}
use native.Mathlib.Omega.{arith}
use Rattle.pairs.specs.Pairs.{pair_count}
use Rattle.pairs.proofs.PairLaws.{pair_count_suc}
use Rattle.record.specs.Layout.{cell, bit_count, byte_count}

-- what the code sums up
pub bits_counted : (n p : ℕ) → p ≡ pair_count n → 6 + (n - 1) + 2 * p ≡ bit_count n
unfolding bit_count
bits_counted n p e = rw e

-- and rounds up
pub bytes_counted : (n b : ℕ) → b ≡ bit_count n → (b + 7) / 8 ≡ byte_count n
unfolding byte_count
bytes_counted n b e = rw e

-- the place of the first entry of a row
pub line_counted : (n i p : ℕ) → p ≡ (i - 1) * (2 * n - i) → 6 + (n - 1) + 2 * (p / 2) ≡ cell n i (i + 1)
unfolding cell
line_counted n i p e = rw e (along ((i - 1) * (2 * n - i) / 2))
  where
    along : (k : ℕ) → 6 + (n - 1) + 2 * k ≡ 6 + (n - 1) + 2 * (k + (i + 1 - i) - 1)
    along k = omega arith

-- ---- the size in a closed form, and its range

-- twice the pairs
twice_pairs : (k : ℕ) → 2 * pair_count (suc k) ≡ suc k * k
twice_pairs zero = refl
twice_pairs (suc k) = omega (arith, twice_pairs k, pair_count_suc (suc k))

-- 6 bits of order, one for each vertex from 2 on, two for each pair
pub bits_closed : (n : ℕ) → bit_count n ≡ 6 + (n - 1) + n * (n - 1)
unfolding bit_count
bits_closed zero = refl
bits_closed (suc k) =
    let e : suc k - 1 ≡ k = omega arith in
    omega (arith, twice_pairs k, ap (λ (x : ℕ). suc k * x) e)

-- rounded up to whole bytes
pub bytes_closed : (n : ℕ) → byte_count n ≡ (6 + (n - 1) + n * (n - 1) + 7) / 8
unfolding byte_count
bytes_closed n = ap (λ (b : ℕ). (b + 7) / 8) (bits_closed n)

-- a record takes from 1 to 129 bytes
pub bytes_low : (n : ℕ) → 1 ≤ byte_count n
unfolding byte_count bit_count
bytes_low n = omega arith

-- and at most 129
pub bytes_high : (n : ℕ) → n ≤ 32 → byte_count n ≤ 129
unfolding byte_count bit_count
bytes_high n h =
    let l : n - 1 ≤ 31 = omega arith in
    let p : n * (n - 1) ≤ 32 * 31 = mul-le-mul h l in
    omega arith
