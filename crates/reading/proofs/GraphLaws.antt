-- The graph by its lines above the diagonal.
use Prim.Native.Nat.{ℕ, ◌+◌, ◌/◌, ◌%◌, ◌≤◌, ◌<◌}
use mathlib.Core.Path.{◌≡◌, refl, sym, ◌∙◌}
use mathlib.Core.Bool.{Bool, true, false}
use mathlib.Core.List.{List}
use native.Mathlib.Omega.{arith}
use lib.Dec.{ltb}
use Rattle.laws.specs.Test.{pick}
use Rattle.laws.specs.UpTo.{word_up_to}
use Rattle.laws.specs.UpToLaws.{word_same}
use Rattle.laws.specs.Num.{num}
use Rattle.pairs.specs.Pairs.{number}
use Rattle.words.specs.Placed.{placed}
use Rattle.rows.specs.Rows.{mirrored}
use Rattle.words.specs.Stage.{in_both_halves}
use Rattle.rows.proofs.Halves.{both_halves}
use Rattle.words.proofs.Placed.{placed_same}
use Rattle.graph.specs.Graph.{drawn}
use Rattle.fields.specs.Bits.{bit_of}
use Rattle.fields.proofs.BitLaws.{bit_small}
use Rattle.record.specs.Layout.{entry_place}
use Rattle.record.specs.Reading.{order_in, starts_in, numbered_in, entry_in, graph_in}
use Rattle.reading.specs.Lines.{mark_in, line_in, lines_in}
use Rattle.reading.proofs.LineLaws.{mark_small}

-- what h makes of a mirrored table is what it makes of each entry, mirrored
mirrored_through : (h : ℕ → ℕ) (e d : ℕ → ℕ → ℕ) → h 0 ≡ 0 → ((i j : ℕ) → d i j ≡ h (e i j)) → (i j : ℕ)
    → mirrored d i j ≡ h (mirrored e i j)
unfolding mirrored pick
mirrored_through h e d zeros each i j = go (ltb i j) (ltb j i)
  where
    go : (t u : Bool) → pick t (d i j) (pick u (d j i) 0) ≡ h (pick t (e i j) (pick u (e j i) 0))
    go true u = each i j
    go false true = each j i
    go false false = sym zeros

module _ (f : ℕ → ℕ) (small : (k : ℕ) → f k < 2) (n : ℕ) (short : n ≤ 32) where
  -- of an entry's two bits the second is its remainder by 2
  second_bit : (i j : ℕ) → mark_in f n 1 i j ≡ entry_in f n i j % 2
  unfolding mark_in entry_in numbered_in num
  second_bit i j = omega (arith, small (entry_place n (number n i j) + 1))

  -- and the first its half
  first_bit : (i j : ℕ) → mark_in f n 0 i j ≡ entry_in f n i j / 2
  unfolding mark_in entry_in numbered_in num
  first_bit i j = omega (arith, small (entry_place n (number n i j) + 1))

  -- the lines of the bits d, in both halves, where h gives these bits of an entry
  rows_of : (d : ℕ) (h : ℕ → ℕ) → h 0 ≡ 0 → ((i j : ℕ) → mark_in f n d i j ≡ h (entry_in f n i j))
      → placed (in_both_halves (lines_in f n d)) 32 ≡ placed (λ i. word_up_to (λ j. h (mirrored (entry_in f n) i j)) n) n
  unfolding lines_in line_in
  rows_of d h zeros each =
      both_halves (mark_in f n d) (mark_small f small n d) n short (line_in f n d) (λ i. refl)
      ∙ placed_same (λ i. word_up_to (mirrored (mark_in f n d) i) n) (λ i. word_up_to (λ j. h (mirrored (entry_in f n) i j)) n) n
      (λ i low high. word_same (mirrored (mark_in f n d) i) (λ j. h (mirrored (entry_in f n) i j)) n
      (λ j l m. mirrored_through h (entry_in f n) (mark_in f n d) zeros each i j))

-- the graph by its lines
pub graph_lines : (s : List ℕ) (n w : ℕ) (above_us above_es us es : List ℕ) → order_in (bit_of s) ≤ 32
    → n ≡ order_in (bit_of s) → w ≡ starts_in (bit_of s) n
    → above_us ≡ lines_in (bit_of s) n 0 → above_es ≡ lines_in (bit_of s) n 1
    → es ≡ placed (in_both_halves above_es) 32 → us ≡ placed (in_both_halves above_us) 32
    → record { order = n; edges = es; unknowns = us; starts = w } ≡ graph_in (bit_of s)
unfolding graph_in drawn
graph_lines s n w above_us above_es us es within is_n is_w p q is_es is_us =
    let short : n ≤ 32 = omega arith in
    rw (
      is_w,
      is_es,
      is_us,
      q,
      p,
      rows_of (bit_of s) (bit_small s) n short 1 (λ x. x % 2) refl (second_bit (bit_of s) (bit_small s) n short),
      rows_of (bit_of s) (bit_small s) n short 0 (λ x. x / 2) refl (first_bit (bit_of s) (bit_small s) n short),
      is_n,
    )
