-- What the code's steps come to, one law for each answer.
use Prim.Native.Nat.{ℕ, ◌-◌, ◌/◌, ◌%◌, ◌^◌, ◌≤◌, ◌<◌}
use native.Mathlib.Omega.{arith}
use mathlib.Core.Path.{◌≡◌, refl, sym, ap, ◌∙◌}
use mathlib.Core.Logic.{⊎_elim}
use mathlib.Core.Bool.{Bool, true, false, not}
use mathlib.Core.List.{List, [], ◌∷◌}
use lib.Bits.{bit_xor, xor_add_and}
use lib.Dec.{eqb, ltb}
use borrow.Author.Tests.{eq-eqb, ne_eqb, ltb-true, lt-ltb, le-ltb}
use Rattle.laws.specs.Test.{both, pick}
use Rattle.laws.specs.TestLaws.{same_test}
use Rattle.laws.specs.Each.{Each, each_first, each_rest}
use Rattle.laws.specs.Bit.{bit}
use Rattle.laws.specs.BitLaws.{bit_small}
use Rattle.laws.specs.Compared.{by_below}
use Rattle.laws.specs.Pigeonhole.{Injects, each_taken}
use Rattle.words.specs.Placed.{row}
use Rattle.arrangements.specs.Arrangement.{at}
use Rattle.pairs.specs.Pairs.{Pair, pair}
use Rattle.plain.specs.Plain.{same_pair, pair_of_two}
use Rattle.plain.specs.Before.{earlier_of, row_before, column_before, before_in}
use Rattle.plain.proofs.Plain.{two_rising, two_falling}
use Rattle.plain.proofs.Before.{earlier_told, earlier_first, earlier_second, whole_of}
use Rattle.turns.specs.Turns.{count_by, turn_by, turn_of, turn_at, walk_code, Places}

-- ---- a pair and its image

module _ (i j u v : ℕ) where
  module _ (l : u < v) where
    pub own_rising : u ≡ i → eqb v j ≡ same_pair (pair_of_two u v) (pair i j)
    unfolding same_pair pair_of_two pick both
    own_rising e = rw (lt-ltb u v l, eq-eqb u i e)

    pub own_not_rising : (u ≡ i → ⊥) → false ≡ same_pair (pair_of_two u v) (pair i j)
    unfolding same_pair pair_of_two pick both
    own_not_rising e = rw (lt-ltb u v l, ne_eqb u i e)

  module _ (l : v ≤ u) where
    pub own_falling : v ≡ i → eqb u j ≡ same_pair (pair_of_two u v) (pair i j)
    unfolding same_pair pair_of_two pick both
    own_falling e = rw (le-ltb u v l, eq-eqb v i e)

    pub own_not_falling : (v ≡ i → ⊥) → false ≡ same_pair (pair_of_two u v) (pair i j)
    unfolding same_pair pair_of_two pick both
    own_not_falling e = rw (le-ltb u v l, ne_eqb v i e)

-- ---- one pair

-- which of two pairs of numbers is before the other
module _ (a b c d : ℕ) where
  pub earlier_along : a ≡ c → ltb b d ≡ earlier_of a b c d
  earlier_along e =
      same_test (ltb b d) (earlier_of a b c d) (λ t. earlier_second a b c d e (ltb-true b d t))
      (λ t. ⊎_elim (λ (l : a < c). absurd (omega arith)) (λ (h : (a ≡ c) × (b < d)). lt-ltb b d h.1) (earlier_told a b c d t))

  pub earlier_less : (a ≡ c → ⊥) → ltb a c ≡ earlier_of a b c d
  earlier_less n =
      same_test (ltb a c) (earlier_of a b c d) (λ t. earlier_first a b c d (ltb-true a c t))
      (λ t. ⊎_elim (λ (l : a < c). lt-ltb a c l) (λ (h : (a ≡ c) × (b < d)). absurd (n h.0)) (earlier_told a b c d t))

-- which of two pairs comes first
module _ (mode a b c d : ℕ) (la : 1 ≤ a) (lb : 1 ≤ b) (r : Bool) where
  pub before_by_columns : mode ≡ 2 → r ≡ earlier_of b a d c → r ≡ before_in mode (pair a b) (pair c d)
  unfolding before_in column_before pick both
  before_by_columns e h = rw (eq-eqb mode 2 e, whole_of (pair a b) la lb) h

  pub before_by_rows : (mode ≡ 2 → ⊥) → r ≡ earlier_of a b c d → r ≡ before_in mode (pair a b) (pair c d)
  unfolding before_in row_before pick both
  before_by_rows n h = rw (ne_eqb mode 2 n, whole_of (pair a b) la lb) h

module _ (mode u v i j : ℕ) where
  pub two_before_rising : u < v → (r : Bool) → r ≡ before_in mode (pair u v) (pair i j) → r ≡ before_in mode (pair_of_two u v) (pair i j)
  two_before_rising l r e = rw (two_rising u v l) e

  pub two_before_falling : v ≤ u → (r : Bool) → r ≡ before_in mode (pair v u) (pair i j) → r ≡ before_in mode (pair_of_two u v) (pair i j)
  two_before_falling l r e = rw (two_falling u v l) e

-- how an entry counts: where it is known
pub count_known : (e u : ℕ) (t : Bool) → u ≡ 0 → e ≡ count_by e u t
unfolding count_by pick
count_known e u t h = rw h

-- and where it is unknown, by the test
module _ (e w k : ℕ) (t : Bool) (h : bit w k ≡ 0 → ⊥) where
  pub count_one : t ≡ true → 1 ≡ count_by e (bit w k) t
  unfolding count_by pick
  count_one b = rw (eq-eqb (bit w k) 1 (omega (arith, bit_small w k)), b)

  pub count_none : t ≡ false → 0 ≡ count_by e (bit w k) t
  unfolding count_by pick
  count_none b = rw (eq-eqb (bit w k) 1 (omega (arith, bit_small w k)), b)

module _ (mode e w k i j : ℕ) (h : bit w k ≡ 0 → ⊥) where
  -- at its own place
  module _ (q : List ℕ) (s t : ℕ) (b : Bool) (ps : s ≡ at q i) (pt : t ≡ at q j) (is : b ≡ before_in mode (pair_of_two s t) (pair i j)) where
    told : before_in mode (pair_of_two (at q i) (at q j)) (pair i j) ≡ b
    told = sym (is ∙ rw (ps, pt))

    pub source_counts : b ≡ true → 1 ≡ count_by e (bit w k) (before_in mode (pair_of_two (at q i) (at q j)) (pair i j))
    source_counts y = count_one e w k _ h (told ∙ y)

    pub source_none : b ≡ false → 0 ≡ count_by e (bit w k) (before_in mode (pair_of_two (at q i) (at q j)) (pair i j))
    source_none y = count_none e w k _ h (told ∙ y)

  -- as an image
  module _ (u v : ℕ) (b : Bool) (is : b ≡ before_in mode (pair_of_two u v) (pair i j)) where
    pub image_none : b ≡ true → 0 ≡ count_by e (bit w k) (not (before_in mode (pair_of_two u v) (pair i j)))
    image_none y = count_none e w k _ h (ap not (sym is ∙ y))

    pub image_counts : b ≡ false → 1 ≡ count_by e (bit w k) (not (before_in mode (pair_of_two u v) (pair i j)))
    image_counts y = count_one e w k _ h (ap not (sym is ∙ y))

-- what a pair does
module _ (a b i j u v : ℕ) where
  pub turn_same : a ≡ b → 0 ≡ turn_by a b (same_pair (pair_of_two u v) (pair i j))
  unfolding turn_by pick
  turn_same e = rw (eq-eqb a b e)

  module _ (d : a ≡ b → ⊥) where
    pub turn_wins : a ≡ 1 → 2 ≡ turn_by a b (same_pair (pair_of_two u v) (pair i j))
    unfolding turn_by pick
    turn_wins e = rw (ne_eqb a b d, eq-eqb a 1 e)

    module _ (z : a ≡ 1 → ⊥) (own : Bool) (s : own ≡ same_pair (pair_of_two u v) (pair i j)) where
      pub turn_own : own ≡ true → 0 ≡ turn_by a b (same_pair (pair_of_two u v) (pair i j))
      unfolding turn_by pick
      turn_own e = rw (ne_eqb a b d, ne_eqb a 1 z, sym s ∙ e)

      pub turn_loses : own ≡ false → 1 ≡ turn_by a b (same_pair (pair_of_two u v) (pair i j))
      unfolding turn_by pick
      turn_loses e = rw (ne_eqb a b d, ne_eqb a 1 z, sym s ∙ e)

-- the same by a bit of each word
low_same : (a b : ℕ) → bit_xor a b % 2 ≡ 0 → a % 2 ≡ b % 2
low_same a b h = omega (arith, xor_add_and a b)

same_low : (a b : ℕ) → a % 2 ≡ b % 2 → bit_xor a b % 2 ≡ 0
same_low a b h = omega (arith, xor_add_and a b)

module _ (ones marks i j u v : ℕ) where
  pub bits_same : bit_xor (ones / 2 ^ (j - 1)) (marks / 2 ^ (v - 1)) % 2 ≡ 0 → 0 ≡ turn_by (bit ones (j - 1)) (bit marks (v - 1)) (same_pair (pair_of_two u v) (pair i j))
  bits_same h = turn_same (bit ones (j - 1)) (bit marks (v - 1)) i j u v (low_same (ones / 2 ^ (j - 1)) (marks / 2 ^ (v - 1)) h)

  module _ (odd : bit_xor (ones / 2 ^ (j - 1)) (marks / 2 ^ (v - 1)) % 2 ≡ 0 → ⊥) where
    apart : bit ones (j - 1) ≡ bit marks (v - 1) → ⊥
    apart e = odd (same_low (ones / 2 ^ (j - 1)) (marks / 2 ^ (v - 1)) e)

    pub bits_win : bit ones (j - 1) ≡ 1 → 2 ≡ turn_by (bit ones (j - 1)) (bit marks (v - 1)) (same_pair (pair_of_two u v) (pair i j))
    bits_win = turn_wins (bit ones (j - 1)) (bit marks (v - 1)) i j u v apart

    module _ (z : bit ones (j - 1) ≡ 1 → ⊥) (own : Bool) (s : own ≡ same_pair (pair_of_two u v) (pair i j)) where
      pub bits_own : own ≡ true → 0 ≡ turn_by (bit ones (j - 1)) (bit marks (v - 1)) (same_pair (pair_of_two u v) (pair i j))
      bits_own = turn_own (bit ones (j - 1)) (bit marks (v - 1)) i j u v apart z own s

      pub bits_lose : own ≡ false → 1 ≡ turn_by (bit ones (j - 1)) (bit marks (v - 1)) (same_pair (pair_of_two u v) (pair i j))
      bits_lose = turn_loses (bit ones (j - 1)) (bit marks (v - 1)) i j u v apart z own s

-- by the rows
pub turn_by_rows : (before : Pair → Pair → Bool) (ones doubts marks hidden i j u v s t a b r : ℕ) → a ≡ count_by (bit ones (j - 1)) (bit doubts (j - 1)) (before (pair_of_two s t) (pair i j))
    → b ≡ count_by (bit marks (v - 1)) (bit hidden (v - 1)) (not (before (pair_of_two u v) (pair i j)))
    → r ≡ turn_by a b (same_pair (pair_of_two u v) (pair i j)) → r ≡ turn_of before ones doubts marks hidden i j u v s t
unfolding turn_of
turn_by_rows before ones doubts marks hidden i j u v s t a b r pa pb h = h ∙ rw (pa, pb)

-- and under the path
pub turn_is : (before : Pair → Pair → Bool) (e w p q : List ℕ) (i j u v ones doubts marks hidden r : ℕ) → u ≡ at p i → v ≡ at p j → ones ≡ row e i → doubts ≡ row w i → marks ≡ row e u → hidden ≡ row w u
    → r ≡ turn_of before ones doubts marks hidden i j u v (at q i) (at q j) → r ≡ turn_at before e w p q (pair i j)
unfolding turn_at
turn_is before e w p q i j u v ones doubts marks hidden r pu pv po pd pm ph h = h ∙ rw (po, pd, pm, ph, pu, pv)

-- ---- the vertices of a path and their places

module _ (n : ℕ) (p q : List ℕ) (h : Places n p q) where
  pub vertex_low : (i v : ℕ) → v ≡ at p i → 1 ≤ i → i ≤ n → 1 ≤ v
  vertex_low i v e l k = rw e (h.arranged.within.low i l k)

  pub vertex_high : (i v : ℕ) → v ≡ at p i → 1 ≤ i → i ≤ n → v ≤ 32
  vertex_high i v e l k = rw e (h.arranged.within.high i l k)

  -- at the first place of a pair
  pub first_low : (i j v : ℕ) → v ≡ at p i → 1 ≤ i → i < j → j ≤ n → 1 ≤ v
  first_low i j v e l k b = vertex_low i v e l (omega arith)

  pub first_high : (i j v : ℕ) → v ≡ at p i → 1 ≤ i → i < j → j ≤ n → v ≤ 32
  first_high i j v e l k b = vertex_high i v e l (omega arith)

  -- and at its second
  pub last_low : (i j v : ℕ) → v ≡ at p j → 1 ≤ i → i < j → j ≤ n → 1 ≤ v
  last_low i j v e l k b = vertex_low j v e (omega arith) b

  pub last_high : (i j v : ℕ) → v ≡ at p j → 1 ≤ i → i < j → j ≤ n → v ≤ 32
  last_high i j v e l k b = vertex_high j v e (omega arith) b

  pub reorders : Injects n n (at p)
  reorders = record { low = h.arranged.within.low; high = h.arranged.below; once = h.arranged.once }

  -- each vertex of 1..n has a place
  pub place_low : (v : ℕ) → 1 ≤ v → v ≤ n → 1 ≤ at q v
  place_low v l k =
      by_below 0 (at q v) (λ (some : 0 < at q v). some)
      (λ (none : at q v ≤ 0). absurd (each_taken n (at p) reorders v l k (λ i li hi e. omega (arith, h.undone i li hi, ap (at q) e))))

  pub place_high : (v : ℕ) → 1 ≤ v → v ≤ n → at q v ≤ n
  place_high v l k =
      by_below n (at q v) (λ (past : n < at q v). absurd (each_taken n (at p) reorders v l k (λ i li hi e. omega (arith, h.undone i li hi, ap (at q) e)))) (λ (within : at q v ≤ n). within)

  pub place_first : (i j : ℕ) → 1 ≤ i → i < j → j ≤ n → 1 ≤ at q i
  place_first i j l k b = place_low i l (omega arith)

  pub place_last : (i j : ℕ) → 1 ≤ i → i < j → j ≤ n → 1 ≤ at q j
  place_last i j l k b = place_low j (omega arith) b

-- turns that are the same along the pairs come to the same
pub walk_alike : (t s : Pair → ℕ) (ks : List Pair) → Each (λ k. t k ≡ s k) ks → walk_code t ks ≡ walk_code s ks
unfolding walk_code
walk_alike t s [] h = refl
walk_alike t s (k ∷ ks) h = rw (each_first (λ j. t j ≡ s j) h, walk_alike t s ks (each_rest (λ j. t j ≡ s j) h))
