-- Arrangements: 32 numbers, of which the one at index i - 1 is the vertex p(i) put at place i, with zeros after place n.
use Rattle.std.specs.Prelude.{ℕ, ◌-◌, ◌≤◌, ◌<◌, ◌≡◌, ◌≢◌, Bool, not, List, length, get_or, leb, eqb}
use Rattle.laws.specs.Bit.{bit}
use Rattle.laws.specs.Test.{both, pick}
use Rattle.laws.specs.UpTo.{all_up_to, word_up_to}
use Rattle.rows.specs.Rows.{start_at, block_of}
use Rattle.words.specs.Placed.{row}

-- p(i)
abbrev pub at : List ℕ → ℕ → ℕ
at p i = get_or p (i - 1) 0

-- p uses each of 1..n once, and is zero after place n
pub record Reordering (n : ℕ) (p : List ℕ) : Type 0 where
  pub long : length p ≡ 32
  pub low : (i : ℕ) → 1 ≤ i → i ≤ n → 1 ≤ at p i
  pub high : (i : ℕ) → 1 ≤ i → i ≤ n → at p i ≤ n
  pub once : (i j : ℕ) → 1 ≤ j → j < i → i ≤ n → at p i ≢ at p j
  pub zeros : (i : ℕ) → n < i → at p i ≡ 0

-- and p(i) lies in the block of i
pub record Permitted (n starts : ℕ) (p : List ℕ) : Type 0 where
  pub reordering : Reordering n p
  pub in_block : (i : ℕ) → 1 ≤ i → i ≤ n → block_of starts (at p i) ≡ block_of starts i

-- ---- the tests

-- p(i) is none of p(1), .., p(i - 1)
abbrev pub differs : List ℕ → ℕ → ℕ → Bool
differs p i j = not (eqb (at p j) (at p i))

unfoldable pub is_new : List ℕ → ℕ → Bool
is_new p i = all_up_to (differs p i) (i - 1)

-- place i holds a vertex that stands at no earlier place; after place n it holds zero
unfoldable pub place_fits : ℕ → List ℕ → ℕ → Bool
place_fits n p i = pick (leb i n) (both (leb 1 (at p i)) (both (leb (at p i) n) (is_new p i))) (eqb (at p i) 0)

unfoldable pub is_reordering : ℕ → List ℕ → Bool
is_reordering n p = both (eqb (length p) 32) (all_up_to (place_fits n p) 32)

-- p(i) lies in the block of i
unfoldable pub stays_in_block : ℕ → List ℕ → ℕ → Bool
stays_in_block starts p i = eqb (block_of starts (at p i)) (block_of starts i)

unfoldable pub is_permitted : ℕ → ℕ → List ℕ → Bool
is_permitted n starts p = both (is_reordering n p) (all_up_to (stays_in_block starts p) n)

-- ---- moving rows

-- row i of the rows moved by p: the bit of j is that of p(j) in row p(i)
unfoldable pub moved_bit : List ℕ → List ℕ → ℕ → ℕ → ℕ
moved_bit rows p i j = bit (row rows (at p i)) (at p j - 1)

unfoldable pub moved_row : List ℕ → List ℕ → ℕ → ℕ → ℕ
moved_row rows p n i = word_up_to (moved_bit rows p i) n

-- ---- blocks

-- no block starts after u up to v
abbrev pub NoStart : ℕ → ℕ → ℕ → Type 0
NoStart starts u v = (w : ℕ) → u < w → w ≤ v → start_at starts w ≡ 0
