-- A row by words: a bit of each tells how an entry counts, at its own place and as an image.
use Prim.Native.Nat.{ℕ, zero, suc, ◌+◌, ◌-◌, ◌^◌, ◌≤◌, ◌<◌, min, max}
use native.Mathlib.Omega.{arith}
use mathlib.Core.Path.{◌≡◌, refl, sym, ap, ap₂, ◌∙◌}
use mathlib.Core.Logic.{◌≢◌, ◌⊎◌, inl, inr, ◌↔◌}
use mathlib.Core.Bool.{Bool, true, false, not}
use mathlib.Core.List.{List}
use lib.Bits.{bit_and, bit_or}
use lib.Dec.{eqb, ltb}
use lib.Pow.{pow_pos}
use borrow.Author.Tests.{eq-eqb, ne_eqb, lt-ltb, le-ltb}
use Rattle.laws.specs.Test.{pick}
use Rattle.laws.specs.TestLaws.{fails}
use Rattle.laws.specs.Bit.{bit}
use Rattle.laws.specs.BitLaws.{bit_small, bit_of_zero, bit_of_and, bit_of_or, bit_of_power, bit_of_power_other, bits_past}
use Rattle.laws.specs.Compared.{by_same, by_below, by_order}
use Rattle.laws.specs.Masks.{bit_of_without}
use Rattle.laws.specs.Pigeonhole.{each_taken}
use Rattle.words.specs.Placed.{row}
use Rattle.arrangements.specs.Arrangement.{at}
use Rattle.pairs.specs.Pairs.{pair, along_row}
use Rattle.pairs.proofs.PairLaws.{along_given}
use Rattle.plain.specs.Plain.{pair_of_two}
use Rattle.plain.specs.Before.{row_before}
use Rattle.plain.proofs.Before.{two_row}
use Rattle.turns.specs.Turns.{all_marks, count_by, turn_of, turn_at, walk_code, Places}
use Rattle.row_walks.specs.RowWords.{turn_with, counted_by, sources_by, unmet_by, Later}
use Rattle.turns.proofs.CodeTurns.{reorders, place_low, place_high, walk_alike}
use Rattle.turns.proofs.Ones.{all_bits, ones_bit}

-- ---- a word of counts

by_bits : (a b m : ℕ) → a < 2 → b < 2 → m < 2 → max (a - b) (min b m) ≡ count_by a b (eqb m 1)
unfolding count_by pick
by_bits zero zero m x y z = omega arith
by_bits zero (suc zero) zero x y z = refl
by_bits zero (suc zero) (suc zero) x y z = refl
by_bits zero (suc zero) (suc (suc m)) x y z = absurd (omega arith)
by_bits zero (suc (suc b)) m x y z = absurd (omega arith)
by_bits (suc zero) zero m x y z = omega arith
by_bits (suc zero) (suc zero) zero x y z = refl
by_bits (suc zero) (suc zero) (suc zero) x y z = refl
by_bits (suc zero) (suc zero) (suc (suc m)) x y z = absurd (omega arith)
by_bits (suc zero) (suc (suc b)) m x y z = absurd (omega arith)
by_bits (suc (suc a)) b m x y z = absurd (omega arith)

-- a bit of the word is how the entry counts whose mask bit decides
counted_bit : (edges unknowns mask k : ℕ) → bit (counted_by edges unknowns mask) k ≡ count_by (bit edges k) (bit unknowns k) (eqb (bit mask k) 1)
unfolding counted_by
counted_bit edges unknowns mask k =
    bit_of_or (edges - bit_and edges unknowns) (bit_and unknowns mask) k
    ∙ ap₂ max (bit_of_without edges unknowns k) (bit_of_and unknowns mask k)
    ∙ by_bits (bit edges k) (bit unknowns k) (bit mask k) (bit_small edges k) (bit_small unknowns k) (bit_small mask k)

-- ---- what the masks tell

-- a bit of what is not in a mask
bit_outside : (m k : ℕ) → k < 32 → bit (all_marks - bit_and all_marks m) k ≡ 1 - bit m k
bit_outside m k h = bit_of_without all_marks m k ∙ rw (all_bits k h)

-- two tests of which both hold, or neither
hold_both : (x : ℕ) (t : Bool) → x ≡ 1 → t ≡ true → eqb x 1 ≡ t
hold_both x t e h = eq-eqb x 1 e ∙ sym h

fail_both : (x : ℕ) (t : Bool) → x ≡ 0 → t ≡ false → eqb x 1 ≡ t
fail_both x t e h = ne_eqb x 1 (λ q. omega arith) ∙ sym h

module _ (n i : ℕ) (p q : List ℕ) (small : n ≤ 32) (li : 1 ≤ i) (hi : i < n) (h : Places n p q) (u : ℕ) (pu : u ≡ at p i) (moved : u ≢ i) (s : ℕ) (ps : s ≡ at q i) where
  -- the vertex at the place of v is v
  held : (v : ℕ) → 1 ≤ v → v ≤ n → at p (at q v) ≡ v
  held v l k =
      by_same (at p (at q v)) v (λ (e : at p (at q v) ≡ v). e)
      (λ d. absurd (each_taken n (at p) (reorders n p q h) v l k (λ x lx hx e. d (ap (at p) (sym (ap (at q) e) ∙ h.undone x lx hx) ∙ e))))

  -- vertex i stands at another place
  elsewhere : s ≢ i
  elsewhere e = moved (pu ∙ ap (at p) (sym e ∙ ps) ∙ held i li (omega arith))

  low_u : 1 ≤ u
  low_u = rw pu (h.arranged.within.low i li (omega arith))

  module _ (j : ℕ) (lj : i < j) (hj : j ≤ n) where
    -- ---- at its own place

    source_low : 1 ≤ s
    source_low = rw ps (place_low n p q h i li (omega arith))

    abbrev Sourced : Type 0
    Sourced = (s < i) ⊎ (at q j < i) ⊎ ((s ≡ i) × (at q j < j)) ⊎ ((at q j ≡ i) × (s < j))

    abbrev sourced : Bool
    sourced = row_before (pair_of_two s (at q j)) (pair i j)

    source_row : (row_before (pair_of_two s (at q j)) (pair i j) ≡ true) ↔ Sourced
    source_row = two_row s (at q j) i j source_low (place_low n p q h j (omega arith) hj)

    no_source : (Sourced → ⊥) → sourced ≡ false
    no_source never = fails sourced (λ x. never (source_row.0 x))

    module _ (mask : ℕ) (later : Later n i p mask) where
      -- a bit of the mask, where vertex i stands at a later place
      source_bit_lem : i ≤ s → bit (sources_by i u s mask) (j - 1)
          ≡ pick (ltb s u) (max (1 - max (bit mask (j - 1)) (bit (2 ^ (u - 1)) (j - 1))) (bit (2 ^ (u - 1)) (j - 1))) (1 - max (bit mask (j - 1)) (bit (2 ^ (u - 1)) (j - 1)))
      unfolding sources_by pick
      source_bit_lem l =
          rw (le-ltb s i l)
          (at (ltb s u) (bit_outside (bit_or mask (2 ^ (u - 1))) (j - 1) (omega arith) ∙ ap (λ (x : ℕ). 1 - x) (bit_of_or mask (2 ^ (u - 1)) (j - 1))))
        where
          at : (t : Bool) → bit (all_marks - bit_and all_marks (bit_or mask (2 ^ (u - 1)))) (j - 1) ≡ 1 - max (bit mask (j - 1)) (bit (2 ^ (u - 1)) (j - 1))
              → bit (pick t (bit_or (all_marks - bit_and all_marks (bit_or mask (2 ^ (u - 1)))) (2 ^ (u - 1))) (all_marks - bit_and all_marks (bit_or mask (2 ^ (u - 1))))) (j - 1)
              ≡ pick t (max (1 - max (bit mask (j - 1)) (bit (2 ^ (u - 1)) (j - 1))) (bit (2 ^ (u - 1)) (j - 1))) (1 - max (bit mask (j - 1)) (bit (2 ^ (u - 1)) (j - 1)))
          at true e = bit_of_or (all_marks - bit_and all_marks (bit_or mask (2 ^ (u - 1)))) (2 ^ (u - 1)) (j - 1) ∙ ap (λ (x : ℕ). max x (bit (2 ^ (u - 1)) (j - 1))) e
          at false e = e

      source_first : s < i → eqb (bit (sources_by i u s mask) (j - 1)) 1 ≡ sourced
      unfolding sources_by pick
      source_first l = rw (lt-ltb s i l) (hold_both (bit all_marks (j - 1)) sourced (all_bits (j - 1) (omega arith)) (source_row.1 (inl l)))

      -- the vertex at place i
      source_own : i < s → j ≡ u → eqb (bit (sources_by i u s mask) (j - 1)) 1 ≡ sourced
      unfolding pick
      source_own l e =
          let there : at q j ≡ i = rw (e, pu) (h.undone i li (omega arith)) in
          let own : bit (2 ^ (u - 1)) (j - 1) ≡ 1 = rw e (bit_of_power (u - 1)) in
          let b = source_bit_lem (omega arith) in
          by_below s u
          (λ (k : s < u). hold_both (bit (sources_by i u s mask) (j - 1)) sourced (b ∙ rw (lt-ltb s u k, own) (omega arith)) (source_row.1 (inr (inr (inr (there, omega arith))))))
          (λ (k : u ≤ s).
          fail_both (bit (sources_by i u s mask) (j - 1)) sourced (b ∙ rw (le-ltb s u k, own) (omega (arith, bit_small mask (j - 1))))
          (no_source (λ x. never there k x)))
        where
          never : at q j ≡ i → u ≤ s → (s < i) ⊎ (at q j < i) ⊎ ((s ≡ i) × (at q j < j)) ⊎ ((at q j ≡ i) × (s < j)) → ⊥
          never there k (inl x) = omega arith
          never there k (inr (inl x)) = omega arith
          never there k (inr (inr (inl x))) = omega (arith, x.0)
          never there k (inr (inr (inr x))) = omega (arith, x.1)

      -- any other
      source_other : i < s → j ≢ u → eqb (bit (sources_by i u s mask) (j - 1)) 1 ≡ sourced
      unfolding pick
      source_other l d =
          by_order (at q j) i
          (λ (k : at q j < i).
          hold_both (bit (sources_by i u s mask) (j - 1)) sourced
          (bits (let m = later.lacks (at q j) (place_low n p q h j (omega arith) hj) (omega arith) in rw (held j (omega arith) hj) at m)) (source_row.1 (inr (inl k))))
          (λ (k : at q j ≡ i). absurd (d (sym (held j (omega arith) hj) ∙ ap (at p) k ∙ sym pu)))
          (λ (k : i < at q j).
          fail_both (bit (sources_by i u s mask) (j - 1)) sourced
          (bits (let m = later.has (at q j) k (place_high n p q h j (omega arith) hj) in rw (held j (omega arith) hj) at m))
          (no_source (λ x. never k x)))
        where
          none : bit (2 ^ (u - 1)) (j - 1) ≡ 0
          none = bit_of_power_other (u - 1) (j - 1) (λ z. d (omega (arith, low_u)))

          bits : {m : ℕ} → bit mask (j - 1) ≡ m → bit (sources_by i u s mask) (j - 1) ≡ 1 - m
          bits {m} e = source_bit_lem (omega arith) ∙ rw (none, e) (by_test (ltb s u))
            where
              by_test : (t : Bool) → pick t (max (1 - max m 0) 0) (1 - max m 0) ≡ 1 - m
              by_test true = omega arith
              by_test false = omega arith

          never : i < at q j → (s < i) ⊎ (at q j < i) ⊎ ((s ≡ i) × (at q j < j)) ⊎ ((at q j ≡ i) × (s < j)) → ⊥
          never k (inl x) = omega arith
          never k (inr (inl x)) = omega arith
          never k (inr (inr (inl x))) = omega (arith, x.0)
          never k (inr (inr (inr x))) = omega (arith, x.0)

      -- the mask has j exactly where (i, j) is the image of a pair before it
      sources_told : eqb (bit (sources_by i u s mask) (j - 1)) 1 ≡ sourced
      sources_told =
          by_order s i source_first (λ (e : s ≡ i). absurd (elsewhere e)) (λ (l : i < s). by_same j u (source_own l) (source_other l))

    -- ---- as an image

    abbrev v : ℕ
    v = at p j

    image_low : 1 ≤ at p j
    image_low = h.arranged.within.low j (omega arith) hj

    image_high : at p j ≤ 32
    image_high = h.arranged.within.high j (omega arith) hj

    abbrev Passed : Type 0
    Passed = (u < i) ⊎ (at p j < i) ⊎ ((u ≡ i) × (at p j < j)) ⊎ ((at p j ≡ i) × (u < j))

    abbrev passed : Bool
    passed = row_before (pair_of_two u (at p j)) (pair i j)

    image_row : (row_before (pair_of_two u (at p j)) (pair i j) ≡ true) ↔ Passed
    image_row = two_row u (at p j) i j low_u image_low

    is_passed : Passed → not passed ≡ false
    is_passed x = ap not (image_row.1 x)

    not_passed : (Passed → ⊥) → not passed ≡ true
    not_passed never = ap not (fails passed (λ x. never (image_row.0 x)))

    unmet_bit : i < u → bit (unmet_by i u s) (at p j - 1)
        ≡ pick (ltb u s) (1 - max (bit (2 ^ (i - 1) - 1) (at p j - 1)) (bit (2 ^ (i - 1)) (at p j - 1))) (1 - bit (2 ^ (i - 1) - 1) (at p j - 1))
    unfolding unmet_by pick
    unmet_bit l = rw (le-ltb u i (omega arith)) (by_test (ltb u s))
      where
        by_test : (t : Bool) → bit (pick t (all_marks - bit_and all_marks (bit_or (2 ^ (i - 1) - 1) (2 ^ (i - 1)))) (all_marks - bit_and all_marks (2 ^ (i - 1) - 1))) (at p j - 1)
            ≡ pick t (1 - max (bit (2 ^ (i - 1) - 1) (at p j - 1)) (bit (2 ^ (i - 1)) (at p j - 1))) (1 - bit (2 ^ (i - 1) - 1) (at p j - 1))
        by_test true = bit_outside (bit_or (2 ^ (i - 1) - 1) (2 ^ (i - 1))) (at p j - 1) (omega (arith, image_high)) ∙ ap (λ (x : ℕ). 1 - x) (bit_of_or (2 ^ (i - 1) - 1) (2 ^ (i - 1)) (at p j - 1))
        by_test false = bit_outside (2 ^ (i - 1) - 1) (at p j - 1) (omega (arith, image_high))

    unmet_first : u < i → eqb (bit (unmet_by i u s) (at p j - 1)) 1 ≡ not passed
    unfolding unmet_by pick
    unmet_first l = rw (lt-ltb u i l) (fail_both (bit 0 (at p j - 1)) (not passed) (bit_of_zero (at p j - 1)) (is_passed (inl l)))

    past_low : i ≤ at p j → bit (2 ^ (i - 1) - 1) (at p j - 1) ≡ 0
    past_low l = bits_past (2 ^ (i - 1) - 1) (i - 1) (at p j - 1) (omega (arith, pow_pos (i - 1))) (omega arith)

    unmet_below : i < u → at p j < i → eqb (bit (unmet_by i u s) (at p j - 1)) 1 ≡ not passed
    unfolding pick
    unmet_below l k =
        let in_low : bit (2 ^ (i - 1) - 1) (at p j - 1) ≡ 1 = ones_bit (i - 1) (at p j - 1) (omega (arith, image_low)) in
        fail_both (bit (unmet_by i u s) (at p j - 1)) (not passed) (unmet_bit l ∙ rw in_low (by_test (ltb u s))) (is_passed (inr (inl k)))
      where
        by_test : (t : Bool) → pick t (1 - max 1 (bit (2 ^ (i - 1)) (at p j - 1))) (1 - 1) ≡ 0
        by_test true = omega arith
        by_test false = omega arith

    unmet_own : i < u → at p j ≡ i → eqb (bit (unmet_by i u s) (at p j - 1)) 1 ≡ not passed
    unfolding pick
    unmet_own l e =
        let there : s ≡ j = ps ∙ ap (at q) (sym e) ∙ h.undone j (omega arith) hj in
        let own : bit (2 ^ (i - 1)) (at p j - 1) ≡ 1 = rw e (bit_of_power (i - 1)) in
        let b = unmet_bit l in
        by_below u s
        (λ (k : u < s). fail_both (bit (unmet_by i u s) (at p j - 1)) (not passed) (b ∙ rw (lt-ltb u s k, own) (omega arith)) (is_passed (inr (inr (inr (e, omega arith))))))
        (λ (k : s ≤ u). hold_both (bit (unmet_by i u s) (at p j - 1)) (not passed) (b ∙ rw (le-ltb u s k, past_low (omega arith)) refl) (not_passed (λ x. never there k x)))
      where
        never : s ≡ j → s ≤ u → (u < i) ⊎ (at p j < i) ⊎ ((u ≡ i) × (at p j < j)) ⊎ ((at p j ≡ i) × (u < j)) → ⊥
        never there k (inl x) = omega arith
        never there k (inr (inl x)) = omega arith
        never there k (inr (inr (inl x))) = omega (arith, x.0)
        never there k (inr (inr (inr x))) = omega (arith, x.1)

    unmet_above : i < u → i < at p j → eqb (bit (unmet_by i u s) (at p j - 1)) 1 ≡ not passed
    unfolding pick
    unmet_above l k =
        let none : bit (2 ^ (i - 1)) (at p j - 1) ≡ 0 = bit_of_power_other (i - 1) (at p j - 1) (λ z. omega arith) in
        hold_both (bit (unmet_by i u s) (at p j - 1)) (not passed) (unmet_bit l ∙ rw (past_low (omega arith), none) (by_test (ltb u s))) (not_passed never)
      where
        by_test : (t : Bool) → pick t (1 - max 0 0) (1 - 0) ≡ 1
        by_test true = refl
        by_test false = refl

        never : (u < i) ⊎ (at p j < i) ⊎ ((u ≡ i) × (at p j < j)) ⊎ ((at p j ≡ i) × (u < j)) → ⊥
        never (inl x) = omega arith
        never (inr (inl x)) = omega arith
        never (inr (inr (inl x))) = omega (arith, x.0)
        never (inr (inr (inr x))) = omega (arith, x.0)

    -- the mask has the vertex at place j exactly where its pair with u does not come before (i, j)
    unmet_told : eqb (bit (unmet_by i u s) (at p j - 1)) 1 ≡ not passed
    unmet_told =
        by_order u i unmet_first (λ (e : u ≡ i). absurd (moved e)) (λ (l : i < u). by_order (at p j) i (unmet_below l) (unmet_own l) (unmet_above l))

-- ---- the row

-- the words of a row whose vertex i stands at another place
pub words_row : (e w p q : List ℕ) (n i u s ones doubts marks hidden mask x y here there r : ℕ) → n ≤ 32 → 1 ≤ i → i < n → Places n p q → Later n i p mask → u ≡ at p i → (u ≡ i → ⊥) → s ≡ at q i
    → ones ≡ row e i → doubts ≡ row w i → marks ≡ row e u → hidden ≡ row w u → x ≡ sources_by i u s mask → here ≡ counted_by ones doubts x → y ≡ unmet_by i u s → there ≡ counted_by marks hidden y
    → r ≡ walk_code (turn_with here there p) (along_row i (i + 1) (n + 1 - (i + 1))) → r ≡ walk_code (turn_at row_before e w p q) (along_row i (i + 1) (n + 1 - (i + 1)))
unfolding turn_with turn_at turn_of
words_row e w p q n i u s ones doubts marks hidden mask x y here there r small li hi h later pu moved ps po pd pm ph px ph' py pt z =
    z
    ∙ walk_alike (turn_with here there p) (turn_at row_before e w p q) (along_row i (i + 1) (n + 1 - (i + 1)))
    (λ k m.
    let g = along_given i (i + 1) (n + 1 - (i + 1)) k m in
    let lj : i < k.column = omega arith in
    let hj : k.column ≤ n = omega arith in
    let a = sources_told n i p q small li hi h u pu moved s ps k.column lj hj mask later in
    let b = unmet_told n i p q small li hi h u pu moved s ps k.column lj hj in
    rw (ph', pt, px, py, counted_bit ones doubts (sources_by i u s mask) (k.column - 1), counted_bit marks hidden (unmet_by i u s) (at p k.column - 1), a, b, po, pd, pm, ph, pu, ps, g.same_row))
