-- What the code's tests of a row's limit and of block starts come to.
use Prim.Native.Nat.{ℕ, ◌-◌, ◌%◌, ◌≤◌, ◌<◌, ◌^◌}
use native.Mathlib.Omega.{arith}
use native.Mathlib.Nat.{div-one}
use mathlib.Core.Path.{◌≡◌, sym, ap, ap₂, ◌∙◌}
use mathlib.Core.Bool.{false}
use lib.Dec.{leb, ltb}
use lib.Pow.{pow_mono, pow_pos}
use mir.Syntax.{w32}
use mir.Val.{Fits}
use borrow.Author.Tests.{eq-eqb, ne_eqb, le-leb, lt-leb}
use Rattle.laws.specs.Test.{both, pick}
use Rattle.rows.specs.Rows.{start_at}
use Rattle.rows.specs.Fits.{starts_fit}

pub limit_inside : (order i r : ℕ) → r ≡ 2 ^ order → i ≤ order → r - 1 ≡ 2 ^ pick (leb i order) order 0 - 1
unfolding pick
limit_inside order i r e h = rw (le-leb i order h, e)

pub limit_past : (order i : ℕ) → order < i → 0 ≡ 2 ^ pick (leb i order) order 0 - 1
unfolding pick
limit_past order i h = rw (lt-leb i order h)

-- all bits of a word fit it
pub limit_fits : (order r : ℕ) → r ≡ 2 ^ order → order ≤ 32 → Fits w32 (r - 1)
limit_fits order r e h = record { fits = omega (arith, e, pow_mono {i = order} {j = 32} h, pow_pos order) }

first_start : (starts : ℕ) → start_at starts 1 ≡ starts % 2
first_start starts = ap (λ (x : ℕ). x % 2) (div-one starts)

pub starts_first : (order starts w lim : ℕ) → starts % 2 ≡ 1 → w ≡ starts → lim ≡ 2 ^ order → ltb w lim ≡ starts_fit order starts
unfolding starts_fit both
starts_first order starts w lim h p q = rw (eq-eqb (start_at starts 1) 1 (first_start starts ∙ h)) (ap₂ ltb p q)

pub starts_none : (order starts : ℕ) → (starts % 2 ≡ 1 → ⊥) → false ≡ starts_fit order starts
unfolding starts_fit both
starts_none order starts h = rw (ne_eqb (start_at starts 1) 1 (λ t. h (sym (first_start starts) ∙ t)))
