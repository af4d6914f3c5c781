-- Rows given above the diagonal, with the same below it, are the rows of the mirrored table.
use Prim.Native.Nat.{ℕ, ◌-◌, ◌^◌, ◌≤◌, ◌<◌, max}
use native.Mathlib.Omega.{arith}
use native.Mathlib.Nat.{lt_of_lt_of_le}
use mathlib.Core.Path.{◌≡◌, sym, ap, ap₂, ◌∙◌}
use mathlib.Core.List.{List}
use lib.Dec.{ltb}
use lib.Pow.{pow_mono}
use lib.Bits.{or_lt}
use borrow.Author.Tests.{lt-ltb, le-ltb}
use Rattle.laws.specs.Compared.{by_below, by_order}
use Rattle.laws.specs.TestLaws.{pick_true, pick_false}
use Rattle.laws.specs.UpTo.{word_up_to}
use Rattle.laws.specs.UpToLaws.{word_below, word_bit, word_past}
use Rattle.laws.specs.Bit.{bit}
use Rattle.laws.specs.BitLaws.{bit_of_or, bit_of_zero, same_word}
use Rattle.words.specs.Placed.{row, placed}
use Rattle.rows.specs.Rows.{mirrored}
use Rattle.words.specs.Stage.{transposed, above, in_both_halves}
use Rattle.rows.proofs.Mirrored.{mirrored_above, mirrored_below, mirrored_loop, mirrored_small}
use Rattle.words.proofs.Placed.{placed_length, placed_at, placed_past, placed_of}
use Rattle.words.proofs.TurnedRows.{transposed_below, turned}

-- above the diagonal
pub above_there : (e : ℕ → ℕ → ℕ) (i j : ℕ) → i < j → above e i j ≡ e i j
unfolding above
above_there e i j h = pick_true (ltb i j) (e i j) 0 (lt-ltb i j h)

-- elsewhere
pub above_elsewhere : (e : ℕ → ℕ → ℕ) (i j : ℕ) → j ≤ i → above e i j ≡ 0
unfolding above
above_elsewhere e i j h = pick_false (ltb i j) (e i j) 0 (le-ltb i j h)

-- a table of bits has bits above the diagonal
pub above_small : (e : ℕ → ℕ → ℕ) → ((i j : ℕ) → e i j ≤ 1) → (i j : ℕ) → above e i j ≤ 1
above_small e small i j =
    by_below i j (λ l. omega (arith, above_there e i j l, small i j)) (λ l. omega (arith, above_elsewhere e i j l))

module _ (e : ℕ → ℕ → ℕ) (small : (i j : ℕ) → e i j ≤ 1) (n : ℕ) (h : n ≤ 32) (upper : ℕ → ℕ) (is_upper : (i : ℕ) → upper i ≡ word_up_to (above e i) n) where
  abbrev rows : List ℕ
  rows = placed upper n

  few : (i k : ℕ) → 1 ≤ k → k ≤ n → above e i k ≤ 1
  few i k l m = above_small e small i k

  row_is : (i : ℕ) → 1 ≤ i → i ≤ n → row rows i ≡ word_up_to (above e i) n
  row_is i l m = placed_at upper n i l m ∙ is_upper i

  -- the bits that are given
  given : (i j : ℕ) → 1 ≤ i → i ≤ n → 1 ≤ j → j ≤ n → bit (row rows i) (j - 1) ≡ above e i j
  given i j li hi lj hj = ap (λ (w : ℕ). bit w (j - 1)) (row_is i li hi) ∙ word_bit (above e i) n j (few i) lj hj

  -- past the order there are none
  past_row : (i k : ℕ) → n < i → bit (row rows i) k ≡ 0
  past_row i k l = ap (λ (w : ℕ). bit w k) (placed_past upper n i l) ∙ bit_of_zero k

  past_column : (i j : ℕ) → 1 ≤ i → n < j → bit (row rows i) (j - 1) ≡ 0
  past_column i j li l =
      by_below n i (λ m. past_row i (j - 1) m)
      (λ m. ap (λ (w : ℕ). bit w (j - 1)) (row_is i li m) ∙ word_past (above e i) n j (few i) l)

  row_below : (i : ℕ) → 1 ≤ i → row rows i < 2 ^ 32
  row_below i l =
      by_below n i (λ m. rw (placed_past upper n i m) (omega arith))
      (λ m. rw (row_is i l m) (lt_of_lt_of_le (word_below (above e i) n (few i)) (pow_mono h)))

  -- a bit of both halves
  halves : (i j : ℕ) → 1 ≤ i → i ≤ 32 → 1 ≤ j → j ≤ 32 → bit (in_both_halves rows i) (j - 1) ≡ max (bit (row rows i) (j - 1)) (bit (row rows j) (i - 1))
  unfolding in_both_halves
  halves i j li hi lj hj =
      bit_of_or (row rows i) (row (transposed rows) i) (j - 1)
      ∙ ap (max (bit (row rows i) (j - 1))) (turned rows i j li hi lj hj)

  halves_below : (i : ℕ) → 1 ≤ i → i ≤ 32 → in_both_halves rows i < 2 ^ 32
  unfolding in_both_halves
  halves_below i l m = or_lt 32 (row rows i) (row (transposed rows) i) (row_below i l) (transposed_below rows (i - 1) (omega arith))

  both : (i j : ℕ) → 1 ≤ i → i ≤ n → 1 ≤ j → j ≤ n → max (above e i j) (above e j i) ≡ mirrored e i j
  both i j li hi lj hj =
      by_order i j
      (λ l. omega (arith, above_there e i j l, above_elsewhere e j i (omega arith), mirrored_above e i j l))
      (λ q. rw q (omega (arith, above_elsewhere e j j (omega arith), mirrored_loop e j)))
      (λ l. omega (arith, above_there e j i l, above_elsewhere e i j (omega arith), mirrored_below e i j l))

  inside : (i : ℕ) → 1 ≤ i → i ≤ n → word_up_to (mirrored e i) n ≡ in_both_halves rows i
  inside i li hi =
      same_word 32 (word_up_to (mirrored e i) n) (in_both_halves rows i)
      (lt_of_lt_of_le (word_below (mirrored e i) n bits) (pow_mono h)) (halves_below i li (omega arith))
      (λ j lj hj. by_below n j
      (λ m. word_past (mirrored e i) n j bits m
      ∙ sym (halves i j li (omega arith) lj hj ∙ omega (arith, past_column i j li m, past_row j (i - 1) m)))
      (λ m. word_bit (mirrored e i) n j bits lj m
      ∙ sym (halves i j li (omega arith) lj hj ∙ ap₂ max (given i j li hi lj m) (given j i lj m li hi) ∙ both i j li hi lj m)))
    where
      bits : (k : ℕ) → 1 ≤ k → k ≤ n → mirrored e i k ≤ 1
      bits k l m = mirrored_small e 1 n (λ a b la lb hb. small a b) i k li hi l m

  outside : (i : ℕ) → n < i → i ≤ 32 → in_both_halves rows i ≡ 0
  outside i l hi =
      same_word 32 (in_both_halves rows i) 0 (halves_below i (omega arith) hi) (omega arith)
      (λ j lj hj. halves i j (omega arith) hi lj hj
      ∙ omega (arith, past_row i (j - 1) l, past_column j i lj l, bit_of_zero (j - 1)))

  -- the rows of the mirrored table
  pub both_halves : placed (in_both_halves rows) 32 ≡ placed (λ i. word_up_to (mirrored e i) n) n
  both_halves =
      sym (placed_of (λ i. word_up_to (mirrored e i) n) n (placed (in_both_halves rows) 32) h (placed_length (in_both_halves rows) 32 (omega arith))
      (λ i l m. inside i l m ∙ sym (placed_at (in_both_halves rows) 32 i l (omega arith)))
      (λ i l. by_below 32 i (λ m. placed_past (in_both_halves rows) 32 i m)
      (λ m. placed_at (in_both_halves rows) 32 i (omega arith) m ∙ outside i l m)))
