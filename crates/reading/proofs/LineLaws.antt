-- The lines that reading finds, row by row.
use Prim.Native.Nat.{ℕ, suc, ◌+◌, ◌-◌, ◌*◌, ◌/◌, ◌^◌, ◌≤◌, ◌<◌}
use mathlib.Core.Path.{◌≡◌, sym, ap, ap₂, ◌∙◌}
use mathlib.Core.List.{List}
use native.Mathlib.Nat.{lt_of_lt_of_le}
use native.Mathlib.Omega.{arith}
use lib.ListN.{length, replicate, set}
use lib.Pow.{pow_mono, pow_pos}
use Rattle.laws.specs.Compared.{by_below}
use Rattle.laws.specs.Bit.{bit}
use Rattle.laws.specs.BitLaws.{bit_of_zero, bit_of_low, bit_of_high, same_word}
use Rattle.laws.specs.UpTo.{word_up_to}
use Rattle.laws.specs.UpToLaws.{word_below, word_bit}
use Rattle.laws.specs.Num.{num, num_bit}
use Rattle.pairs.specs.Pairs.{number}
use Rattle.words.specs.Placed.{placed}
use Rattle.words.specs.Stage.{above}
use Rattle.words.proofs.Filled.{placed_starts, placed_turns, placed_done}
use Rattle.words.proofs.Placed.{placed_length}
use Rattle.rows.proofs.Halves.{above_there, above_elsewhere, above_small}
use Rattle.fields.specs.Bits.{bit_of}
use Rattle.fields.proofs.BitLaws.{bit_small}
use Rattle.record.specs.Layout.{entry_place, cell}
use Rattle.reading.specs.declared.lines.Line.{Line}
use Rattle.numbers.specs.Gathered.{every}
use Rattle.reading.specs.Lines.{mark_in, line_in, lines_in, LineFrom}
use Rattle.reading.proofs.EveryLaws.{every_small, moved_below}

-- the number stands where the row starts
pub entries_are : (f : ℕ → ℕ) (n i place x : ℕ) → place ≡ cell n i (i + 1) → x ≡ num f place (2 * (n - i))
    → x ≡ num f (cell n i (i + 1)) (2 * (n - i))
entries_are f n i place x is_place is_x = rw (← is_place) is_x

module _ (f : ℕ → ℕ) (small : (k : ℕ) → f k < 2) (n : ℕ) where
  pub mark_small : (d i j : ℕ) → mark_in f n d i j ≤ 1
  unfolding mark_in
  mark_small d i j = omega (arith, small (entry_place n (number n i j) + d))

-- a bit counted from the other end, where b entries come before its own and c after it
turned_round : (b c d : ℕ) → d ≤ 1 → 2 * c + (1 - d) ≡ 2 * suc (b + c) - 1 - (2 * b + d)
turned_round b c d h = omega arith

-- b entries on from a place
on_from : (a k b c d : ℕ) → c ≡ suc b → a + 2 * (k + 1 - 1) + (2 * b + d) ≡ a + 2 * (k + c - 1) + d
on_from a k b c d e = omega arith

module _ (f : ℕ → ℕ) (small : (k : ℕ) → f k < 2) (n i x : ℕ) (low : 1 ≤ i) (high : i ≤ n) (is_x : x ≡ num f (cell n i (i + 1)) (2 * (n - i))) where
  -- the bits of an entry by its column
  mark_of : (d j : ℕ) → d ≤ 1 → i < j → j ≤ n → every (1 - d) x (n - j) ≡ mark_in f n d i j
  unfolding every mark_in cell
  mark_of d j ld l h =
      ap (λ (y : ℕ). bit y (2 * (n - j) + (1 - d))) is_x
      ∙ ap (λ (k : ℕ). bit (num f (cell n i (i + 1)) (2 * (n - i))) k) place
      ∙ num_bit f small (cell n i (i + 1)) (2 * (n - i)) (2 * (j - i - 1) + d) (omega arith)
      ∙ ap f (along ((i - 1) * (2 * n - i) / 2))
    where
      place : 2 * (n - j) + (1 - d) ≡ 2 * (n - i) - 1 - (2 * (j - i - 1) + d)
      place = let e : n - i ≡ suc (j - i - 1 + (n - j)) = omega arith in rw e (turned_round (j - i - 1) (n - j) d ld)

      along : (k : ℕ) → 6 + (n - 1) + 2 * (k + (i + 1 - i) - 1) + (2 * (j - i - 1) + d) ≡ 6 + (n - 1) + 2 * (k + (j - i) - 1) + d
      along k =
          let a : i + 1 - i ≡ 1 = omega arith in
          rw a (on_from (6 + (n - 1)) k (j - i - 1) (j - i) d (omega arith))

  line_small : (d k : ℕ) → 1 ≤ k → k ≤ n → above (mark_in f n d) i k ≤ 1
  line_small d k l h = above_small (mark_in f n d) (mark_small f small n d) i k

  -- the words of the row are its line
  pub line_is : (d : ℕ) → d ≤ 1 → num (every (1 - d) x) 0 (n - i) * 2 ^ i ≡ line_in f n d i
  unfolding line_in
  line_is d ld =
      same_word n (num (every (1 - d) x) 0 (n - i) * 2 ^ i) (word_up_to (above (mark_in f n d) i) n)
      (lt_of_lt_of_le (moved_below (1 - d) x (n - i) i) (pow_mono whole)) (word_below (above (mark_in f n d) i) n (line_small d))
      (λ j lj hj. by_below i j
      (λ l. later j l hj ∙ sym (word_bit (above (mark_in f n d) i) n j (line_small d) lj hj ∙ above_there (mark_in f n d) i j l))
      (λ l. before j lj l ∙ sym (word_bit (above (mark_in f n d) i) n j (line_small d) lj hj ∙ above_elsewhere (mark_in f n d) i j l)))
    where
      e : ℕ
      e = num (every (1 - d) x) 0 (n - i)

      whole : n - i + i ≤ n
      whole = omega arith

      nothing : e * 2 ^ i ≡ e * 2 ^ i + 0
      nothing = omega arith

      before : (j : ℕ) → 1 ≤ j → j ≤ i → bit (e * 2 ^ i) (j - 1) ≡ 0
      before j lj l = ap (λ (y : ℕ). bit y (j - 1)) nothing ∙ bit_of_low (j - 1) i e 0 (omega arith) ∙ bit_of_zero (j - 1)

      later : (j : ℕ) → i < j → j ≤ n → bit (e * 2 ^ i) (j - 1) ≡ mark_in f n d i j
      later j l hj =
          let k : j - 1 ≡ i + (j - 1 - i) = omega arith in
          let m : j - 1 - i ≡ n - i - 1 - (n - j) = omega arith in
          let z : 0 + (n - j) ≡ n - j = omega arith in
          ap₂ (λ (y z : ℕ). bit y z) nothing k ∙ bit_of_high (j - 1 - i) i e 0 (pow_pos i)
          ∙ ap (bit e) m ∙ num_bit (every (1 - d) x) (every_small (1 - d) x) 0 (n - i) (n - j) (omega arith)
          ∙ ap (every (1 - d) x) z ∙ mark_of d j ld l hj

-- no line at first
pub lines_start : (f : ℕ → ℕ) (out : List ℕ) → out ≡ replicate 32 0 → out ≡ placed f 0
lines_start f out e = e ∙ placed_starts f

-- there is room for the next one
pub lines_room : (f : ℕ → ℕ) (n i : ℕ) (out : List ℕ) → out ≡ placed f i → i < n → n ≤ 32 → i < length out
lines_room f n i out e l h = rw e (omega (arith, placed_length f i (omega arith)))

-- one line more
pub lines_turn : (s : List ℕ) (n i x d v : ℕ) (out : List ℕ) → out ≡ placed (line_in (bit_of s) n d) i
    → x ≡ num (bit_of s) (cell n (i + 1) (i + 1 + 1)) (2 * (n - (i + 1)))
    → v ≡ num (every (1 - d) x) 0 (n - (i + 1)) * 2 ^ (i + 1) → d ≤ 1 → i < n → n ≤ 32
    → set out i v ≡ placed (line_in (bit_of s) n d) (i + 1)
lines_turn s n i x d v out is_out is_x is_v ld l h =
    placed_turns (line_in (bit_of s) n d) i v n out is_out (is_v ∙ line_is (bit_of s) (bit_small s) n (i + 1) x (omega arith) (omega arith) is_x d ld) l h

pub unknowns_turn : (s : List ℕ) (n i x : ℕ) (line : Line) (out : List ℕ) → out ≡ placed (line_in (bit_of s) n 0) i
    → x ≡ num (bit_of s) (cell n (i + 1) (i + 1 + 1)) (2 * (n - (i + 1)))
    → LineFrom x (n - (i + 1)) (i + 1) line → i < n → n ≤ 32 → set out i line.unknowns ≡ placed (line_in (bit_of s) n 0) (i + 1)
unknowns_turn s n i x line out is_out is_x is_line l h = lines_turn s n i x 0 line.unknowns out is_out is_x is_line.unknowns (omega arith) l h

pub edges_turn : (s : List ℕ) (n i x : ℕ) (line : Line) (out : List ℕ) → out ≡ placed (line_in (bit_of s) n 1) i
    → x ≡ num (bit_of s) (cell n (i + 1) (i + 1 + 1)) (2 * (n - (i + 1)))
    → LineFrom x (n - (i + 1)) (i + 1) line → i < n → n ≤ 32 → set out i line.edges ≡ placed (line_in (bit_of s) n 1) (i + 1)
edges_turn s n i x line out is_out is_x is_line l h = lines_turn s n i x 1 line.edges out is_out is_x is_line.edges (omega arith) l h

pub lines_done : (f : ℕ → ℕ) (n d i : ℕ) (out : List ℕ) → out ≡ placed (line_in f n d) i → i ≤ n → n ≤ i → out ≡ lines_in f n d
unfolding lines_in
lines_done f n d i out is_out l h = placed_done (line_in f n d) i n out is_out l h
