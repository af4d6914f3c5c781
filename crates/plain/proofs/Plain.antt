-- A list of all plain pairs of 1..n without repeats makes a lawful scheme; so do they in row order.
use Prim.Native.Nat.{ℕ, suc, ◌-◌, ◌≤◌, ◌<◌}
use native.Mathlib.Omega.{arith}
use mathlib.Core.Path.{◌≡◌, refl, sym, ap, ◌∙◌}
use mathlib.Core.List.{List, ◌++◌, Memᴰ}
use lib.Dec.{ltb}
use borrow.Author.Tests.{eqb-true, eq-eqb, lt-ltb, le-ltb}
use Rattle.laws.specs.Compared.{by_below, by_order}
use Rattle.laws.specs.TestLaws.{both_first, both_second, both_hold, pick_true, pick_false}
use Rattle.laws.specs.ListLaws.{NoRepeats}
use Rattle.walk.specs.Walk.{Tells}
use Rattle.schemes.specs.Scheme.{as_given, turned, Starts, Lawful}
use Rattle.pairs.specs.Pairs.{Pair, pair, Between, along_row, from_row, pairs}
use Rattle.pairs.proofs.PairLaws.{along_given, pairs_given, pairs_has, pairs_no_repeats, row_one_first}
use Rattle.plain.specs.Plain.{same_pair, pair_of_two, plain, judged_on, by_rows}

-- the test tells whether two pairs are one
pub same_pair_tells : Tells same_pair
unfolding same_pair
same_pair_tells =
    record {
      equal = λ j k e. λ d. record { row = eqb-true j.row k.row (both_first _ _ e) d; column = eqb-true j.column k.column (both_second _ _ e) d };
      itself = λ k. both_hold _ _ (eq-eqb k.row k.row refl) (eq-eqb k.column k.column refl);
    }

-- the smaller vertex comes first
pub two_rising : (u v : ℕ) → u < v → pair_of_two u v ≡ pair u v
unfolding pair_of_two
two_rising u v l = pick_true (ltb u v) (pair u v) (pair v u) (lt-ltb u v l)

pub two_falling : (u v : ℕ) → v ≤ u → pair_of_two u v ≡ pair v u
unfolding pair_of_two
two_falling u v l = pick_false (ltb u v) (pair u v) (pair v u) (le-ltb u v l)

-- their order doesn't matter
pub two_flip : (u v : ℕ) → pair_of_two u v ≡ pair_of_two v u
two_flip u v =
    by_order u v (λ (l : u < v). two_rising u v l ∙ sym (two_falling v u (omega arith))) (λ (e : u ≡ v). rw e)
    (λ (l : v < u). two_falling u v (omega arith) ∙ sym (two_rising v u l))

-- row 1 up to column k names only 1..k
pub row_within : (k : ℕ) (j : Pair) → Memᴰ j (along_row 1 2 (k - 1)) → 1 ≤ k → (j.row ≤ k) × (j.column ≤ k)
row_within k j m l = let a = along_given 1 2 (k - 1) j m in (omega arith, omega arith)

-- the pairs of row 1 are those on which a shorter beginning is judged
pub judged_on_short : (n k : ℕ) → k < n → judged_on n k ≡ along_row 1 2 (k - 1)
unfolding judged_on
judged_on_short n k h = pick_true (ltb k n) (along_row 1 2 (k - 1)) (pairs n) (lt-ltb k n h)

pub judged_on_whole : (n : ℕ) → judged_on n n ≡ pairs n
unfolding judged_on
judged_on_whole n = pick_false (ltb n n) (along_row 1 2 (n - 1)) (pairs n) (le-ltb n n (omega arith))

-- a list of the pairs of 1..n, in any order, with pairs to judge on
pub plain_lawful : (n : ℕ) (ks : List Pair) (on : ℕ → List Pair) → NoRepeats ks → ((k : Pair) → Memᴰ k ks → Between 1 n k) → ((k : Pair) → Between 1 n k → Memᴰ k ks)
    → on n ≡ ks → ((k : ℕ) → 1 ≤ k → k < n → Starts (plain ks on) k (on k) ks) → Lawful n (plain ks on)
plain_lawful n ks on once given has whole starts =
    record {
      tells = same_pair_tells;
      once = once;
      places = λ k m. let b = given k m in record { low = b.from_low; high = omega arith; low' = omega arith; high' = b.to_high; apart = λ e. omega arith };
      spelt = λ k m. let b = given k m in two_rising k.row k.column b.rising;
      listed = λ u v t.
          by_order u v (λ (l : u < v). rw (two_rising u v l) (has (pair u v) (record { from_low = t.low; rising = l; to_high = t.high' })))
          (λ (e : u ≡ v). absurd (t.apart e))
          (λ (l : v < u). rw (two_falling u v (omega arith)) (has (pair v u) (record { from_low = t.low'; rising = l; to_high = t.high })));
      named = λ u v t.
          by_below u v (λ (l : u < v). as_given (ap (λ k. k.row) (two_rising u v l)) (ap (λ k. k.column) (two_rising u v l)))
          (λ (l : v ≤ u). turned (ap (λ k. k.row) (two_falling u v l)) (ap (λ k. k.column) (two_falling u v l)) two_flip);
      whole = whole;
      starts = starts;
    }

-- plain pairs in row order are such a list
pub rows_lawful : (n : ℕ) → Lawful n (by_rows n)
rows_lawful n = plain_lawful n (pairs n) (judged_on n) (pairs_no_repeats n) (pairs_given n) (pairs_has n) (judged_on_whole n) starts
  where
    starts : (k : ℕ) → 1 ≤ k → k < n → Starts (by_rows n) k (judged_on n k) (pairs n)
    starts k l h =
        record {
          rest = along_row 1 (suc k) (n - k) ++ from_row 2 (n - 2);
          split = rw (judged_on_short n k h) (row_one_first n k l (omega arith));
          first_within = λ j m. (row_within k j (rw (judged_on_short n k h) at m) l).0;
          second_within = λ j m. (row_within k j (rw (judged_on_short n k h) at m) l).1;
        }
