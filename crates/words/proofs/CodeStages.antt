-- What the code of a stage comes to.
use Prim.Native.Nat.{ℕ, ◌+◌, ◌-◌, ◌*◌, ◌/◌, ◌%◌, ◌^◌, ◌≤◌, ◌<◌}
use native.Mathlib.Omega.{arith}
use mathlib.Core.Path.{◌≡◌, refl, sym, ap, ◌∙◌}
use mathlib.Core.List.{List}
use lib.ListN.{get_or, set}
use lib.Dec.{eqb}
use lib.Bits.{bit_and, bit_or}
use borrow.Author.Tests.{eq-eqb, ne_eqb}
use Rattle.laws.specs.TestLaws.{pick_true, pick_false}
use Rattle.words.specs.Placed.{placed}
use Rattle.words.proofs.Filled.{placed_turns}
use Rattle.words.specs.Stage.{lower, upper, staged, transposed, in_both_halves}

pub lower_is : (s m a b : ℕ) → bit_or (bit_and a m) (bit_and b m * 2 ^ s % 2 ^ 32) ≡ lower s m a b
unfolding lower
lower_is s m a b = refl

pub upper_is : (s m c a b : ℕ) → bit_or (bit_and (a / 2 ^ s) m) (bit_and b c) ≡ upper s m c a b
unfolding upper
upper_is s m c a b = refl

module _ (s m c : ℕ) (rows : List ℕ) (i : ℕ) where
  -- the row after an even number of rows
  pub staged_even : staged s m c rows (2 * i + 1) ≡ lower s m (get_or rows i 0) (get_or rows (i + 16) 0)
  unfolding staged
  staged_even =
      let k : (2 * i + 1 - 1) / 2 ≡ i = omega arith in
      let e : (2 * i + 1 - 1) % 2 ≡ 0 = omega arith in
      rw k (pick_true (eqb ((2 * i + 1 - 1) % 2) 0) _ _ (eq-eqb ((2 * i + 1 - 1) % 2) 0 e))

  -- and the one after it
  pub staged_odd : staged s m c rows (2 * i + 1 + 1) ≡ upper s m c (get_or rows i 0) (get_or rows (i + 16) 0)
  unfolding staged
  staged_odd =
      let k : (2 * i + 1 + 1 - 1) / 2 ≡ i = omega arith in
      rw k (pick_false (eqb ((2 * i + 1 + 1 - 1) % 2) 0) _ _ (ne_eqb ((2 * i + 1 + 1 - 1) % 2) 0 (λ e. omega arith)))

  pub stage_turns : (out : List ℕ) (v w : ℕ) → out ≡ placed (staged s m c rows) (2 * i) → v ≡ lower s m (get_or rows i 0) (get_or rows (i + 16) 0)
      → w ≡ upper s m c (get_or rows i 0) (get_or rows (i + 16) 0) → i < 16 → set (set out (2 * i) v) (2 * i + 1) w ≡ placed (staged s m c rows) (2 * (i + 1))
  stage_turns out v w h p q l =
      let n : 2 * i + 1 + 1 ≡ 2 * (i + 1) = omega arith in
      placed_turns (staged s m c rows) (2 * i + 1) w 32 (set out (2 * i) v)
      (placed_turns (staged s m c rows) (2 * i) v 32 out h (p ∙ sym staged_even) (omega arith) (omega arith))
      (q ∙ sym staged_odd) (omega arith) (omega arith)
      ∙ ap (placed (staged s m c rows)) n

pub stage_done : (s m c : ℕ) (rows : List ℕ) (i : ℕ) (out : List ℕ) → out ≡ placed (staged s m c rows) (2 * i) → i ≤ 16 → 16 ≤ i → out ≡ placed (staged s m c rows) 32
stage_done s m c rows i out h a b = let n : 2 * i ≡ 32 = omega arith in h ∙ ap (placed (staged s m c rows)) n

pub transposed_is : (rows a b c d r : List ℕ) → a ≡ placed (staged 16 65535 4294901760 rows) 32 → b ≡ placed (staged 8 16711935 4278255360 a) 32
    → c ≡ placed (staged 4 252645135 4042322160 b) 32 → d ≡ placed (staged 2 858993459 3435973836 c) 32
    → r ≡ placed (staged 1 1431655765 2863311530 d) 32 → r ≡ transposed rows
unfolding transposed
transposed_is rows a b c d r e f g h k = rw (k, h, g, f, e)

-- ---- both halves

pub halves_turn : (rows columns out : List ℕ) (i : ℕ) → columns ≡ transposed rows → out ≡ placed (in_both_halves rows) i → i < 32
    → set out i (bit_or (get_or rows i 0) (get_or columns i 0)) ≡ placed (in_both_halves rows) (i + 1)
unfolding in_both_halves
halves_turn rows columns out i is_columns is_out l =
    let k : i + 1 - 1 ≡ i = omega arith in
    placed_turns (in_both_halves rows) i (bit_or (get_or rows i 0) (get_or columns i 0)) 32 out is_out (rw (k, is_columns)) l (omega arith)
