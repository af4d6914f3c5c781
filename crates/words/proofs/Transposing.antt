-- Five stages transpose the rows.
use Prim.Native.Nat.{ℕ, ◌+◌, ◌-◌, ◌*◌, ◌/◌, ◌%◌, ◌<◌}
use native.Mathlib.Omega.{arith}
use mathlib.Core.Path.{◌≡◌, refl, sym, ap, ap₂, ◌∙◌}
use mathlib.Core.Bool.{Bool, true}
use mathlib.Core.List.{List}
use lib.ListN.{get_or}
use lib.Dec.{eqb}
use borrow.Author.Tests.{eqb-true}
use Rattle.laws.specs.Compared.{by_below, by_same}
use Rattle.laws.specs.Test.{both}
use Rattle.laws.specs.TestLaws.{both_first, both_second}
use Rattle.laws.specs.UpTo.{all_up_to}
use Rattle.laws.specs.UpToLaws.{all_at}
use Rattle.laws.specs.Bit.{bit}
use Rattle.words.specs.Placed.{placed}
use Rattle.words.proofs.Placed.{placed_at}
use Rattle.words.specs.Stage.{lower, upper, staged, transposed}
use Rattle.words.proofs.CodeStages.{staged_even, staged_odd}
use Rattle.words.proofs.StageLaws.{side, Halves, lower_near, lower_far, upper_near, upper_far}

-- the number at index i
pub index_of_placed : (f : ℕ → ℕ) (i : ℕ) → i < 32 → get_or (placed f 32) i 0 ≡ f (i + 1)
index_of_placed f i l = let e : i + 1 - 1 ≡ i = omega arith in rw e at (placed_at f 32 (i + 1) (omega arith) (omega arith))

module _ (s m c : ℕ) (h : Halves s m c) (rows : List ℕ) where
  -- where bit k of row i comes from
  abbrev from_row : ℕ → ℕ → ℕ
  from_row i k = i / 2 + 16 * side s k

  abbrev from_bit : ℕ → ℕ → ℕ
  from_bit i k = k - s * side s k + s * (i % 2)

  pub at_even : (i : ℕ) → i < 32 → i % 2 ≡ 0 → get_or (placed (staged s m c rows) 32) i 0 ≡ lower s m (get_or rows (i / 2) 0) (get_or rows (i / 2 + 16) 0)
  at_even i l p =
      let e : i + 1 ≡ 2 * (i / 2) + 1 = omega arith in
      index_of_placed (staged s m c rows) i l ∙ ap (staged s m c rows) e ∙ staged_even s m c rows (i / 2)

  pub at_odd : (i : ℕ) → i < 32 → i % 2 ≡ 1 → get_or (placed (staged s m c rows) 32) i 0 ≡ upper s m c (get_or rows (i / 2) 0) (get_or rows (i / 2 + 16) 0)
  at_odd i l p =
      let e : i + 1 ≡ 2 * (i / 2) + 1 + 1 = omega arith in
      index_of_placed (staged s m c rows) i l ∙ ap (staged s m c rows) e ∙ staged_odd s m c rows (i / 2)

  -- from there to a row x and a bit y that are worked out by cases
  come_from : (i k x y : ℕ) → x ≡ from_row i k → y ≡ from_bit i k → bit (get_or rows x 0) y ≡ bit (get_or rows (from_row i k) 0) (from_bit i k)
  come_from i k x y e f = ap₂ (λ (p q : ℕ). bit (get_or rows p 0) q) e f

  pub stage_bit : (i k : ℕ) → i < 32 → k < 32 → bit (get_or (placed (staged s m c rows) 32) i 0) k ≡ bit (get_or rows (from_row i k) 0) (from_bit i k)
  stage_bit i k li lk =
      by_same (i % 2) 0
      (λ p. ap (λ (w : ℕ). bit w k) (at_even i li p)
      ∙ by_same (side s k) 0
      (λ z. lower_near s m c h a b k lk z ∙ come_from i k (i / 2) k (omega arith) (rw (z, p) (omega arith)))
      (λ z. let d : side s k ≡ 1 = omega arith in
      by_below k s (λ q. absurd (z (h.first k q)))
      (λ q. let e : k ≡ s + (k - s) = omega arith in
      ap (λ (y : ℕ). bit (lower s m a b) y) e
      ∙ lower_far s m c h a b (k - s) (omega arith) (ap (side s) (sym e) ∙ d)
      ∙ come_from i k (i / 2 + 16) (k - s) (rw d) (rw (d, p) (omega arith)))))
      (λ p. let o : i % 2 ≡ 1 = omega arith in
      ap (λ (w : ℕ). bit w k) (at_odd i li o)
      ∙ by_same (side s k) 0
      (λ z. upper_near s m c h a b k lk z ∙ come_from i k (i / 2) (s + k) (omega arith) (rw (z, o) (omega arith)))
      (λ z. let d : side s k ≡ 1 = omega arith in
      by_below k s (λ q. absurd (z (h.first k q)))
      (λ q. upper_far s m c h a b k lk d ∙ come_from i k (i / 2 + 16) k (rw d) (rw (d, o) (omega arith)))))
    where
      a : ℕ
      a = get_or rows (i / 2) 0

      b : ℕ
      b = get_or rows (i / 2 + 16) 0

-- ---- the five pairs of masks

-- m and c mark vertex k's column as they should
abbrev marked : ℕ → ℕ → ℕ → ℕ → Bool
marked s m c k = both (eqb (bit m (k - 1)) (1 - side s (k - 1))) (eqb (bit c (k - 1)) (side s (k - 1)))

module _ (s m c : ℕ) (t : all_up_to (marked s m c) 32 ≡ true) where
  at : (k : ℕ) → k < 32 → (bit m k ≡ 1 - side s k) × (bit c k ≡ side s k)
  at k l =
      let e : k + 1 - 1 ≡ k = omega arith in
      let h = rw e at (all_at (marked s m c) 32 t (k + 1) (omega arith) (omega arith)) in
      (eqb-true (bit m k) (1 - side s k) (both_first _ _ h), eqb-true (bit c k) (side s k) (both_second _ _ h))

  halves : ((k : ℕ) → k < s → side s k ≡ 0) → ((k : ℕ) → side s (s + k) ≡ 1 - side s k) → Halves s m c
  halves first across = record { marks = λ k l. (at k l).0; others = λ k l. (at k l).1; first = first; across = across }

halves_16 : Halves 16 65535 4294901760
unfolding all_up_to both
halves_16 = halves 16 65535 4294901760 refl (λ k l. omega arith) (λ k. omega arith)

halves_8 : Halves 8 16711935 4278255360
unfolding all_up_to both
halves_8 = halves 8 16711935 4278255360 refl (λ k l. omega arith) (λ k. omega arith)

halves_4 : Halves 4 252645135 4042322160
unfolding all_up_to both
halves_4 = halves 4 252645135 4042322160 refl (λ k l. omega arith) (λ k. omega arith)

halves_2 : Halves 2 858993459 3435973836
unfolding all_up_to both
halves_2 = halves 2 858993459 3435973836 refl (λ k l. omega arith) (λ k. omega arith)

pub halves_1 : Halves 1 1431655765 2863311530
unfolding all_up_to both
halves_1 = halves 1 1431655765 2863311530 refl (λ k l. omega arith) (λ k. omega arith)

-- ---- five stages

module _ (s m c : ℕ) (h : Halves s m c) (rows : List ℕ) where
  back : (a b x y : ℕ) → a < 32 → b < 32 → a / 2 + 16 * side s b ≡ x → b - s * side s b + s * (a % 2) ≡ y
      → bit (get_or (placed (staged s m c rows) 32) a 0) b ≡ bit (get_or rows x 0) y
  back a b x y la lb e f = stage_bit s m c h rows a b la lb ∙ ap₂ (λ (p q : ℕ). bit (get_or rows p 0) q) e f

-- the bit worth 1
row_1 : (i k x : ℕ) → x ≡ k / 1 % 2 → i / 2 + 16 * x ≡ i / 2 + 16 * (k % 2)
row_1 i k x e = omega arith

column_1 : (i k x y : ℕ) → x ≡ k / 1 % 2 → y ≡ i / 1 % 2 → k - 1 * x + 1 * y ≡ 2 * (k / 2) + i % 2
column_1 i k x y e f = omega arith

back_1 : (rows : List ℕ) (i k : ℕ) → i < 32 → k < 32 → bit (get_or (placed (staged 1 1431655765 2863311530 rows) 32) i 0) k ≡ bit (get_or rows (i / 2 + 16 * (k % 2)) 0) (2 * (k / 2) + i % 2)
back_1 rows i k li lk =
    let x : side 1 k ≡ k / 1 % 2 = omega arith in
    let y : i % 2 ≡ i / 1 % 2 = omega arith in
    back 1 1431655765 2863311530 halves_1 rows i k (i / 2 + 16 * (k % 2)) (2 * (k / 2) + i % 2) (omega arith) (omega arith)
    (row_1 i k _ x) (column_1 i k _ _ x y)

-- the bit worth 2
row_2 : (i k x : ℕ) → x ≡ k / 2 % 2 → (i / 2 + 16 * (k % 2)) / 2 + 16 * x ≡ i / 4 + 8 * (k % 4)
row_2 i k x e = omega arith

column_2 : (i k x y : ℕ) → x ≡ k / 2 % 2 → y ≡ i / 2 % 2 → 2 * (k / 2) + i % 2 - 2 * x + 2 * y ≡ 4 * (k / 4) + i % 4
column_2 i k x y e f = omega arith

back_2 : (rows : List ℕ) (i k : ℕ) → i < 32 → k < 32 → bit (get_or (placed (staged 2 858993459 3435973836 rows) 32) (i / 2 + 16 * (k % 2)) 0) (2 * (k / 2) + i % 2) ≡ bit (get_or rows (i / 4 + 8 * (k % 4)) 0) (4 * (k / 4) + i % 4)
back_2 rows i k li lk =
    let x : side 2 (2 * (k / 2) + i % 2) ≡ k / 2 % 2 = omega arith in
    let y : (i / 2 + 16 * (k % 2)) % 2 ≡ i / 2 % 2 = omega arith in
    back 2 858993459 3435973836 halves_2 rows (i / 2 + 16 * (k % 2)) (2 * (k / 2) + i % 2) (i / 4 + 8 * (k % 4)) (4 * (k / 4) + i % 4) (omega arith) (omega arith)
    (row_2 i k _ x) (column_2 i k _ _ x y)

-- the bit worth 4
row_4 : (i k x : ℕ) → x ≡ k / 4 % 2 → (i / 4 + 8 * (k % 4)) / 2 + 16 * x ≡ i / 8 + 4 * (k % 8)
row_4 i k x e = omega arith

column_4 : (i k x y : ℕ) → x ≡ k / 4 % 2 → y ≡ i / 4 % 2 → 4 * (k / 4) + i % 4 - 4 * x + 4 * y ≡ 8 * (k / 8) + i % 8
column_4 i k x y e f = omega arith

back_4 : (rows : List ℕ) (i k : ℕ) → i < 32 → k < 32 → bit (get_or (placed (staged 4 252645135 4042322160 rows) 32) (i / 4 + 8 * (k % 4)) 0) (4 * (k / 4) + i % 4) ≡ bit (get_or rows (i / 8 + 4 * (k % 8)) 0) (8 * (k / 8) + i % 8)
back_4 rows i k li lk =
    let x : side 4 (4 * (k / 4) + i % 4) ≡ k / 4 % 2 = omega arith in
    let y : (i / 4 + 8 * (k % 4)) % 2 ≡ i / 4 % 2 = omega arith in
    back 4 252645135 4042322160 halves_4 rows (i / 4 + 8 * (k % 4)) (4 * (k / 4) + i % 4) (i / 8 + 4 * (k % 8)) (8 * (k / 8) + i % 8) (omega arith) (omega arith)
    (row_4 i k _ x) (column_4 i k _ _ x y)

-- the bit worth 8
row_8 : (i k x : ℕ) → x ≡ k / 8 % 2 → (i / 8 + 4 * (k % 8)) / 2 + 16 * x ≡ i / 16 + 2 * (k % 16)
row_8 i k x e = omega arith

column_8 : (i k x y : ℕ) → x ≡ k / 8 % 2 → y ≡ i / 8 % 2 → 8 * (k / 8) + i % 8 - 8 * x + 8 * y ≡ 16 * (k / 16) + i % 16
column_8 i k x y e f = omega arith

back_8 : (rows : List ℕ) (i k : ℕ) → i < 32 → k < 32 → bit (get_or (placed (staged 8 16711935 4278255360 rows) 32) (i / 8 + 4 * (k % 8)) 0) (8 * (k / 8) + i % 8) ≡ bit (get_or rows (i / 16 + 2 * (k % 16)) 0) (16 * (k / 16) + i % 16)
back_8 rows i k li lk =
    let x : side 8 (8 * (k / 8) + i % 8) ≡ k / 8 % 2 = omega arith in
    let y : (i / 8 + 4 * (k % 8)) % 2 ≡ i / 8 % 2 = omega arith in
    back 8 16711935 4278255360 halves_8 rows (i / 8 + 4 * (k % 8)) (8 * (k / 8) + i % 8) (i / 16 + 2 * (k % 16)) (16 * (k / 16) + i % 16) (omega arith) (omega arith)
    (row_8 i k _ x) (column_8 i k _ _ x y)

-- the bit worth 16
row_16 : (i k x : ℕ) → i < 32 → k < 32 → x ≡ k / 16 % 2 → (i / 16 + 2 * (k % 16)) / 2 + 16 * x ≡ k
row_16 i k x li lk e = omega arith

column_16 : (i k x y : ℕ) → i < 32 → k < 32 → x ≡ k / 16 % 2 → y ≡ i / 16 % 2 → 16 * (k / 16) + i % 16 - 16 * x + 16 * y ≡ i
column_16 i k x y li lk e f = omega arith

back_16 : (rows : List ℕ) (i k : ℕ) → i < 32 → k < 32 → bit (get_or (placed (staged 16 65535 4294901760 rows) 32) (i / 16 + 2 * (k % 16)) 0) (16 * (k / 16) + i % 16) ≡ bit (get_or rows k 0) i
back_16 rows i k li lk =
    let x : side 16 (16 * (k / 16) + i % 16) ≡ k / 16 % 2 = omega arith in
    let y : (i / 16 + 2 * (k % 16)) % 2 ≡ i / 16 % 2 = omega arith in
    back 16 65535 4294901760 halves_16 rows (i / 16 + 2 * (k % 16)) (16 * (k / 16) + i % 16) k i (omega arith) (omega arith)
    (row_16 i k _ li lk x) (column_16 i k _ _ li lk x y)

-- bit k of row i of the transposed rows is bit i of row k
pub transposed_bit : (rows : List ℕ) (i k : ℕ) → i < 32 → k < 32 → bit (get_or (transposed rows) i 0) k ≡ bit (get_or rows k 0) i
unfolding transposed
transposed_bit rows i k li lk = back_1 _ i k li lk ∙ back_2 _ i k li lk ∙ back_4 _ i k li lk ∙ back_8 _ i k li lk ∙ back_16 rows i k li lk
