-- The words of a row from every second bit of the number of its entries.
use Prim.Native.Nat.{ℕ, suc, ◌+◌, ◌-◌, ◌*◌, ◌/◌, ◌%◌, ◌^◌, ◌≤◌, ◌<◌}
use mathlib.Core.Path.{◌≡◌, sym, ap, ◌∙◌}
use native.Mathlib.Nat.{lt_of_lt_of_le, mod-eq_of_lt, mul-le-mul_right, suc-mul}
use native.Mathlib.Omega.{arith}
use lib.Pow.{pow-add, pow_mono, pow_pos}
use mir.Syntax.{w32}
use mir.Val.{Fits}
use Rattle.laws.specs.BitLaws.{bit_of_half}
use Rattle.laws.specs.Num.{num, num_below, num_same, num_top}
use Rattle.numbers.specs.Gathered.{every}
use Rattle.reading.specs.Lines.{LineFrom}

pub every_small : (d x k : ℕ) → every d x k < 2
unfolding every
every_small d x k = omega arith

-- so many bits are below a power
every_below : (d x t : ℕ) → num (every d x) 0 t < 2 ^ t
every_below d x t = num_below (every d x) (every_small d x) 0 t

-- moved up by i bits there are t + i
pub moved_below : (d x t i : ℕ) → num (every d x) 0 t * 2 ^ i < 2 ^ (t + i)
moved_below d x t i =
    let m : suc (num (every d x) 0 t) * 2 ^ i ≤ 2 ^ t * 2 ^ i = mul-le-mul_right (2 ^ i) (every_below d x t) in
    rw (pow-add 2 t i) (omega (arith, m, suc-mul (num (every d x) 0 t) (2 ^ i), pow_pos i))

moved_is : (d x t i w : ℕ) → w ≡ num (every d x) 0 t → t + i ≤ 32 → w * 2 ^ i % 2 ^ 64 ≡ num (every d x) 0 t * 2 ^ i
moved_is d x t i w is_w h =
    rw is_w (mod-eq_of_lt (omega (arith, moved_below d x t i, pow_mono {j = 32} h)))

-- ---- of the gathered bits only as many as there are entries

even_part : (x t w : ℕ) → t ≤ 32 → w ≡ num (every 0 x) 0 32 → w / 2 ^ (32 - t) ≡ num (every 0 x) 0 t
even_part x t w h is_w =
    let e : 32 ≡ t + (32 - t) = omega arith in
    ap (λ (y : ℕ). y / 2 ^ (32 - t)) (is_w ∙ ap (num (every 0 x) 0) e) ∙ num_top (every 0 x) (every_small 0 x) 0 t (32 - t)

-- the odd bits are the even ones of half the number
odd_part : (x t w : ℕ) → t ≤ 32 → w ≡ num (every 0 (x / 2)) 0 32 → w / 2 ^ (32 - t) ≡ num (every 1 x) 0 t
unfolding every
odd_part x t w h is_w =
    even_part (x / 2) t w h is_w
    ∙ num_same (every 0 (x / 2)) (every 1 x) 0 0 t
    (λ k l. let a : 2 * (0 + k) + 0 ≡ 2 * k = omega arith in
    let b : 2 * (0 + k) + 1 ≡ suc (2 * k) = omega arith in
    rw (a, b) (sym (bit_of_half x (2 * k))))

module _ (x n i w : ℕ) (high : i ≤ n) (short : n ≤ 32) where
  moved_fits : (d : ℕ) → w / 2 ^ (32 - (n - i)) ≡ num (every d x) 0 (n - i) → Fits w32 (w / 2 ^ (32 - (n - i)) * 2 ^ i % 2 ^ 64)
  moved_fits d is_w =
      record { fits = rw (moved_is d x (n - i) i (w / 2 ^ (32 - (n - i))) is_w (omega arith)) (lt_of_lt_of_le (moved_below d x (n - i) i) (pow_mono {j = 32} (omega arith))) }

  pub edges_fit : w ≡ num (every 0 x) 0 32 → Fits w32 (w / 2 ^ (32 - (n - i)) * 2 ^ i % 2 ^ 64)
  edges_fit is_w = moved_fits 0 (even_part x (n - i) w (omega arith) is_w)

  pub unknowns_fit : w ≡ num (every 0 (x / 2)) 0 32 → Fits w32 (w / 2 ^ (32 - (n - i)) * 2 ^ i % 2 ^ 64)
  unknowns_fit is_w = moved_fits 1 (odd_part x (n - i) w (omega arith) is_w)

pub line_made : (x n i u e : ℕ) → i ≤ n → n ≤ 32 → u ≡ num (every 0 (x / 2)) 0 32 → e ≡ num (every 0 x) 0 32
    → LineFrom x (n - i) i (record { unknowns = u / 2 ^ (32 - (n - i)) * 2 ^ i % 2 ^ 64; edges = e / 2 ^ (32 - (n - i)) * 2 ^ i % 2 ^ 64 })
line_made x n i u e high short is_u is_e =
    record {
      unknowns = moved_is 1 x (n - i) i (u / 2 ^ (32 - (n - i))) (odd_part x (n - i) u (omega arith) is_u) (omega arith);
      edges = moved_is 0 x (n - i) i (e / 2 ^ (32 - (n - i))) (even_part x (n - i) e (omega arith) is_e) (omega arith);
    }
