-- Products of small numbers.
use Prim.Native.Nat.{ℕ, ◌*◌, ◌≤◌}
use native.Mathlib.Nat.{mul-le-mul}
use native.Mathlib.Omega.{arith}
use mir.Syntax.{w32}
use mir.Val.{Fits}

-- two small numbers have a small product
pub product_small : (a b : ℕ) → a ≤ 64 → b ≤ 64 → a * b ≤ 4096
product_small a b h k = mul-le-mul h k

-- which fits
pub product_fits : (a b : ℕ) → a ≤ 64 → b ≤ 64 → Fits w32 (a * b)
product_fits a b h k = record { fits = omega (arith, product_small a b h k) }
