-- What is reached up to the winning pair, as masks: the columns of a row, and the vertices whose pairs are images of reached ones.
use Prim.Native.Nat.{ℕ, ◌+◌, ◌-◌, ◌/◌, ◌%◌, ◌^◌, ◌≤◌, ◌<◌}
use native.Mathlib.Omega.{arith}
use mathlib.Core.Path.{◌≡◌, sym, ap, subst, ◌∙◌}
use mathlib.Core.Logic.{◌≢◌, ◌⊎◌, inl, inr}
use mathlib.Core.Bool.{Bool, true, false, not}
use lib.Pow.{shr-shr}
use borrow.Author.Tests.{eq-eqb, ne_eqb}
use Rattle.laws.specs.Compared.{by_below, by_same}
use Rattle.laws.specs.Bit.{bit}
use Rattle.laws.specs.Test.{pick}
use Rattle.laws.specs.TestLaws.{not_both_ways}
use Rattle.needed.specs.Settled.{up_to}
use Rattle.arrangements.specs.Arrangement.{at}
use Rattle.pairs.specs.Pairs.{Pair, pair}
use Rattle.plain.specs.Plain.{pair_of_two}
use Rattle.plain.specs.Before.{row_before, column_before, before_in}
use Rattle.plain.proofs.Plain.{two_rising, two_falling}
use Rattle.plain.proofs.Before.{row_told, row_less, row_along}
use Rattle.plain.proofs.Columns.{column_told, column_less, column_down}
use Rattle.turns.specs.Turns.{all_marks}
use Rattle.kinds.specs.Kinds.{place_before, Firsts, SourcesBy}
use Rattle.turns.proofs.Ones.{all_bits}
use Rattle.kinds.proofs.PlaceLaws.{place_before_column, place_before_row}

-- ---- the lowest bits of a word

pub low_bits : (n k : ℕ) → n ≤ 32 → k < n → bit (all_marks / 2 ^ (32 - n)) k ≡ 1
low_bits n k small h = ap (λ (x : ℕ). x % 2) (shr-shr all_marks (32 - n) k) ∙ all_bits (32 - n + k) (omega arith)

-- ---- what is reached is not past the winning pair

-- a is not above c, and where they are the same b is not above d
record NotPast (a b c d : ℕ) : Type 0 where
  first : a ≤ c
  second : a ≡ c → b ≤ d

-- by a test that goes by a and b of k, and by c and d of w
reached_not_past : (before : Pair → Pair → Bool) (without : Bool) (w k : Pair) (a b c d : ℕ) → (before k w ≡ true → (a < c) ⊎ ((a ≡ c) × (b < d))) → (c < a → before w k ≡ true)
    → (c ≡ a → d < b → before w k ≡ true) → up_to before without w k ≡ true → NotPast a b c d
unfolding up_to pick
reached_not_past before true w k a b c d told less along e = at (told e)
  where
    at : (a < c) ⊎ ((a ≡ c) × (b < d)) → NotPast a b c d
    at (inl l) = record { first = omega arith; second = λ q. absurd (omega arith) }
    at (inr l) = record { first = omega (arith, l.0); second = λ q. omega (arith, l.1) }
reached_not_past before false w k a b c d told less along e =
    record {
      first = by_below c a (λ (l : c < a). absurd (not_both_ways _ e (ap not (less l)))) (λ (l : a ≤ c). l);
      second = λ q. by_below d b (λ (l : d < b). absurd (not_both_ways _ e (ap not (along (sym q) l)))) (λ (l : b ≤ d). l);
    }

module _ (without : Bool) (w k : Pair) (low : 1 ≤ w.row) (low' : 1 ≤ w.column) where
  reached_by_rows : up_to row_before without w k ≡ true → NotPast k.row k.column w.row w.column
  reached_by_rows = reached_not_past row_before without w k _ _ _ _ (row_told k w) (row_less w k low low') (row_along w k low low')

  reached_by_columns : up_to column_before without w k ≡ true → NotPast k.column k.row w.column w.row
  reached_by_columns = reached_not_past column_before without w k _ _ _ _ (column_told k w) (column_less w k low low') (column_down w k low low')

-- ---- the columns at which a row is reached

module _ (i row column : ℕ) (low : 1 ≤ row) (rising : row < column) (high : column ≤ 32) where
  pub firsts_all : Firsts row_before (pair row column) i all_marks
  firsts_all = record { has = λ o j l h e. all_bits (j - 1) (omega arith) }

  pub firsts_some : i ≡ row → Firsts row_before (pair row column) i (all_marks / 2 ^ (32 - column))
  firsts_some q = record { has = λ o j l h e. low_bits column (j - 1) high (omega (arith, (reached_by_rows o (pair row column) (pair i j) low (omega arith) e).second q)) }

  pub firsts_none : row ≤ i → i ≢ row → Firsts row_before (pair row column) i 0
  firsts_none m d = record { has = λ o j l h e. absurd (omega (arith, (reached_by_rows o (pair row column) (pair i j) low (omega arith) e).first)) }

  pub firsts_up : Firsts column_before (pair row column) i (all_marks / 2 ^ (32 - column))
  firsts_up = record { has = λ o j l h e. low_bits column (j - 1) high (omega (arith, (reached_by_columns o (pair row column) (pair i j) low (omega arith) e).first)) }

  pub firsts_before : row < i → Firsts column_before (pair row column) i (all_marks / 2 ^ (33 - column))
  firsts_before m =
      let s : 33 - column ≡ 32 - (column - 1) = omega arith in
      rw s
      record {
        has = λ o j l h e.
            let r = reached_by_columns o (pair row column) (pair i j) low (omega arith) e in
            low_bits (column - 1) (j - 1) (omega arith) (by_same j column (λ q. absurd (omega (arith, r.second q))) (λ d. omega (arith, r.first)));
      }

-- ---- the vertices whose pairs are reached

module _ (row column u : ℕ) (low : 1 ≤ row) (rising : row < column) where
  -- v, whose pair with u is reached by rows
  module _ (o : Bool) (v : ℕ) (h : up_to row_before o (pair row column) (pair_of_two u v) ≡ true) where
    of_row : u < v → NotPast u v row column
    of_row l = reached_by_rows o (pair row column) (pair u v) low (omega arith) (rw (two_rising u v l) at h)

    of_other : v ≤ u → NotPast v u row column
    of_other l = reached_by_rows o (pair row column) (pair v u) low (omega arith) (rw (two_falling u v l) at h)

    other_up : u ≡ row → v ≤ column
    other_up e = by_below u v (λ (l : u < v). (of_row l).second e) (λ (l : v ≤ u). omega arith)

    other_at : row < u → v ≤ row
    other_at a = by_below u v (λ (l : u < v). absurd (omega (arith, (of_row l).first))) (λ (l : v ≤ u). (of_other l).first)

    other_before : column < u → v ≤ row - 1
    other_before a =
        by_below u v (λ (l : u < v). absurd (omega (arith, (of_row l).first)))
        (λ (l : v ≤ u). by_same v row (λ s. absurd (omega (arith, (of_other l).second s))) (λ s. omega (arith, (of_other l).first)))

  -- and by columns
  module _ (o : Bool) (v : ℕ) (h : up_to column_before o (pair row column) (pair_of_two u v) ≡ true) where
    of_other_column : u < v → NotPast v u column row
    of_other_column l = reached_by_columns o (pair row column) (pair u v) low (omega arith) (rw (two_rising u v l) at h)

    of_column : v ≤ u → NotPast u v column row
    of_column l = reached_by_columns o (pair row column) (pair v u) low (omega arith) (rw (two_falling u v l) at h)

    down_up : v ≤ column
    down_up = by_below u v (λ (l : u < v). (of_other_column l).first) (λ (l : v ≤ u). omega (arith, (of_column l).first))

    down_before : row < u → u < column → v ≤ column - 1
    down_before a c =
        by_below u v (λ (l : u < v). by_same v column (λ s. absurd (omega (arith, (of_other_column l).second s))) (λ s. omega (arith, (of_other_column l).first)))
        (λ (l : v ≤ u). omega arith)

    down_at : u ≡ column → v ≤ row
    down_at e = by_below u v (λ (l : u < v). absurd (omega (arith, (of_other_column l).first))) (λ (l : v ≤ u). (of_column l).second e)

    down_none : ¬ (column < u)
    down_none c = by_below u v (λ (l : u < v). omega (arith, (of_other_column l).first)) (λ (l : v ≤ u). omega (arith, (of_column l).first))

  module _ (less at_row up : ℕ) where
    pub sources_all : SourcesBy row_before (row - 1) row column u less at_row up all_marks
    sources_all = record { are = λ n q small b a c. record { has = λ o j l h e. all_bits (j - 1) (omega arith) } }

    pub sources_up : u ≡ row → SourcesBy row_before (row - 1) row column u less at_row up up
    sources_up e = record { are = λ n q small b a c. record { has = λ o j l h k. c.has j l h (other_up o (at q j) k e) } }

    pub sources_at : row ≤ u → u ≢ row → SourcesBy row_before (row - 1) row column u less at_row up at_row
    sources_at e d = record { are = λ n q small b a c. record { has = λ o j l h k. a.has j l h (other_at o (at q j) k (omega arith)) } }

    pub sources_less : column < u → SourcesBy row_before (row - 1) row column u less at_row up less
    sources_less e = record { are = λ n q small b a c. record { has = λ o j l h k. b.has j l h (other_before o (at q j) k e) } }

    pub column_sources_up : SourcesBy column_before (column - 1) row column u less at_row up up
    column_sources_up = record { are = λ n q small b a c. record { has = λ o j l h k. c.has j l h (down_up o (at q j) k) } }

    pub column_sources_less : row < u → u < column → SourcesBy column_before (column - 1) row column u less at_row up less
    column_sources_less e d = record { are = λ n q small b a c. record { has = λ o j l h k. b.has j l h (down_before o (at q j) k e d) } }

    pub column_sources_at : u ≡ column → SourcesBy column_before (column - 1) row column u less at_row up at_row
    column_sources_at e = record { are = λ n q small b a c. record { has = λ o j l h k. a.has j l h (down_at o (at q j) k e) } }

    pub column_sources_none : column ≤ u → u ≢ column → SourcesBy column_before (column - 1) row column u less at_row up 0
    column_sources_none e d = record { are = λ n q small b a c. record { has = λ o j l h k. absurd (down_none o (at q j) k (omega arith)) } }

-- ---- in the order of a mode

module _ (mode : ℕ) where
  by_mode_columns : mode ≡ 2 → column_before ≡ before_in mode
  unfolding before_in pick
  by_mode_columns e = λ t j k. pick (sym (eq-eqb mode 2 e) t) (column_before j k) (row_before j k)

  by_mode_rows : mode ≢ 2 → row_before ≡ before_in mode
  unfolding before_in pick
  by_mode_rows d = λ t j k. pick (sym (ne_eqb mode 2 d) t) (column_before j k) (row_before j k)

  module _ (row column : ℕ) where
    module _ (i mask : ℕ) where
      pub firsts_in_columns : mode ≡ 2 → Firsts column_before (pair row column) i mask → Firsts (before_in mode) (pair row column) i mask
      firsts_in_columns e = subst (λ (t : Pair → Pair → Bool). Firsts t (pair row column) i mask) (by_mode_columns e)

      pub firsts_in_rows : mode ≢ 2 → Firsts row_before (pair row column) i mask → Firsts (before_in mode) (pair row column) i mask
      firsts_in_rows d = subst (λ (t : Pair → Pair → Bool). Firsts t (pair row column) i mask) (by_mode_rows d)

    module _ (u less at_row up mask : ℕ) where
      pub sources_in_columns : mode ≡ 2 → SourcesBy column_before (column - 1) row column u less at_row up mask → SourcesBy (before_in mode) (place_before mode row column) row column u less at_row up mask
      sources_in_columns e s = rw (← place_before_column mode row column e) (subst (λ (t : Pair → Pair → Bool). SourcesBy t (column - 1) row column u less at_row up mask) (by_mode_columns e) s)

      pub sources_in_rows : mode ≢ 2 → SourcesBy row_before (row - 1) row column u less at_row up mask → SourcesBy (before_in mode) (place_before mode row column) row column u less at_row up mask
      sources_in_rows d s = rw (← place_before_row mode row column d) (subst (λ (t : Pair → Pair → Bool). SourcesBy t (row - 1) row column u less at_row up mask) (by_mode_rows d) s)
