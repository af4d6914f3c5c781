-- The tests of an arrangement hold exactly where it is a reordering, and where it is permitted.
use Prim.Native.Nat.{ℕ, ◌-◌, ◌≤◌, ◌<◌}
use mathlib.Core.Path.{◌≡◌, sym, ◌∙◌}
use mathlib.Core.Logic.{◌≢◌}
use mathlib.Core.Bool.{true, false, not}
use mathlib.Core.List.{List}
use native.Mathlib.Omega.{arith}
use lib.ListN.{length, get_or-eq_default}
use lib.Dec.{leb, eqb}
use borrow.Author.Tests.{leb-true, eqb-true, eqb-false, not-true, le-leb, lt-leb, eq-eqb, ne_eqb}
use Rattle.laws.specs.Compared.{by_below}
use Rattle.laws.specs.Test.{both}
use Rattle.laws.specs.TestLaws.{both_first, both_second, both_hold, pick_true, pick_false, not_both_ways}
use Rattle.laws.specs.UpToLaws.{all_at, all_hold}
use Rattle.rows.specs.Rows.{block_of}
use Rattle.arrangements.specs.Arrangement.{at, Reordering, Permitted, is_new, place_fits, is_reordering, stays_in_block, is_permitted}

-- ---- reorderings

module _ (n : ℕ) (p : List ℕ) (high : n ≤ 32) (t : is_reordering n p ≡ true) where
  all_32 : length p ≡ 32
  unfolding is_reordering
  all_32 = eqb-true (length p) 32 (both_first _ _ t)

  place_fits_lem : (i : ℕ) → 1 ≤ i → i ≤ 32 → place_fits n p i ≡ true
  unfolding is_reordering
  place_fits_lem = all_at (place_fits n p) 32 (both_second _ _ t)

  filled : (i : ℕ) → 1 ≤ i → i ≤ n → both (leb 1 (at p i)) (both (leb (at p i) n) (is_new p i)) ≡ true
  unfolding place_fits
  filled i l h = sym (pick_true (leb i n) _ _ (le-leb i n h)) ∙ place_fits_lem i l (omega arith)

  empty : (i : ℕ) → n < i → at p i ≡ 0
  unfolding place_fits
  empty i h =
      by_below 32 i (λ l. get_or-eq_default p 0 (omega (arith, all_32)))
      (λ l. eqb-true (at p i) 0 (sym (pick_false (leb i n) _ _ (lt-leb i n h)) ∙ place_fits_lem i (omega arith) l))

  new : (i j : ℕ) → 1 ≤ j → j < i → i ≤ n → at p i ≢ at p j
  unfolding is_new
  new i j l h m e =
      let f = all_at (λ k. not (eqb (at p k) (at p i))) (i - 1) (both_second _ _ (both_second _ _ (filled i (omega arith) m))) j l (omega arith) in
      eqb-false (at p j) (at p i) (not-true (eqb (at p j) (at p i)) f) (sym e)

  -- what passes the test is a reordering
  pub reordered : Reordering n p
  reordered =
      record {
        long = all_32;
        low = λ i l h. leb-true 1 (at p i) (both_first _ _ (filled i l h));
        high = λ i l h. leb-true (at p i) n (both_first _ _ (both_second _ _ (filled i l h)));
        once = new;
        zeros = empty;
      }

-- a reordering passes the test
pub reordering_tested : (n : ℕ) (p : List ℕ) → Reordering n p → is_reordering n p ≡ true
unfolding is_reordering place_fits is_new
reordering_tested n p r = both_hold _ _ (eq-eqb (length p) 32 r.long) (all_hold (place_fits n p) 32 fits)
  where
    fits : (i : ℕ) → 1 ≤ i → i ≤ 32 → place_fits n p i ≡ true
    fits i l h =
        by_below n i (λ m. pick_false (leb i n) _ _ (lt-leb i n m) ∙ eq-eqb (at p i) 0 (r.zeros i m))
        (λ m. pick_true (leb i n) _ _ (le-leb i n m)
        ∙ both_hold _ _ (le-leb 1 (at p i) (r.low i l m))
        (both_hold _ _ (le-leb (at p i) n (r.high i l m))
        (all_hold (λ j. not (eqb (at p j) (at p i))) (i - 1) (λ j k o. rw (ne_eqb (at p j) (at p i) (λ e. r.once i j k (omega arith) m (sym e)))))))

-- what fails the test is none
pub not_reordered : (n : ℕ) (p : List ℕ) → is_reordering n p ≡ false → Reordering n p → ⊥
not_reordered n p f r = not_both_ways (is_reordering n p) (reordering_tested n p r) f

-- ---- permitted arrangements

-- what passes the test is permitted
pub permitted : (n starts : ℕ) (p : List ℕ) → n ≤ 32 → is_permitted n starts p ≡ true → Permitted n starts p
unfolding is_permitted stays_in_block
permitted n starts p high t =
    record {
      reordering = reordered n p high (both_first _ _ t);
      in_block = λ i l h. eqb-true (block_of starts (at p i)) (block_of starts i) (all_at (stays_in_block starts p) n (both_second _ _ t) i l h);
    }

-- a permitted arrangement passes the test
pub permitted_tested : (n starts : ℕ) (p : List ℕ) → Permitted n starts p → is_permitted n starts p ≡ true
unfolding is_permitted stays_in_block
permitted_tested n starts p a =
    both_hold _ _ (reordering_tested n p a.reordering)
    (all_hold (stays_in_block starts p) n (λ i l h. eq-eqb (block_of starts (at p i)) (block_of starts i) (a.in_block i l h)))

-- what fails the test is not permitted
pub not_permitted : (n starts : ℕ) (p : List ℕ) → is_permitted n starts p ≡ false → Permitted n starts p → ⊥
not_permitted n starts p f a = not_both_ways (is_permitted n starts p) (permitted_tested n starts p a) f
