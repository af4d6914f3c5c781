-- A row that has no edge and no mark after its place, or nothing but these, goes on all along.
use Prim.Native.Nat.{ℕ, zero, suc, ◌+◌, ◌-◌, ◌/◌, ◌%◌, ◌^◌, ◌≤◌, ◌<◌}
use native.Mathlib.Omega.{arith}
use mathlib.Core.Path.{◌≡◌, refl, sym, ap, ◌∙◌}
use mathlib.Core.Logic.{◌≢◌}
use mathlib.Core.Bool.{Bool, true, false, false≢true}
use mathlib.Core.List.{List}
use lib.Bits.{bit_and, bit_or}
use lib.Dec.{eqb}
use lib.Pow.{shr-shr}
use borrow.Author.Tests.{eqb-true}
use Rattle.std.proofs.lemmas.Nat.Bits.{ones_shr}
use Rattle.laws.specs.Bit.{bit}
use Rattle.laws.specs.Compared.{by_same}
use Rattle.laws.specs.BitLaws.{bit_small, bit_of_zero, bit_of_power, bit_of_and, bit_of_power_other}
use Rattle.laws.specs.Masks.{bit_of_without}
use Rattle.words.specs.Placed.{row}
use Rattle.rows.proofs.Standing.{or_none}
use Rattle.arrangements.specs.Arrangement.{at}
use Rattle.pairs.specs.Pairs.{Pair, pair, along_row}
use Rattle.plain.specs.Before.{row_before}
use Rattle.turns.specs.Turns.{all_marks, turn_at, walk_code, Arranged, Places}
use Rattle.row_walks.specs.RowWords.{turn_with, Later, Alike}
use Rattle.turns.proofs.Ones.{ones_bit, all_bits}
use Rattle.turns.proofs.CodeTurns.{count_known, turn_same, turn_by_rows, turn_is}
use Rattle.row_walks.proofs.CodeRows.{code_rest}

-- ---- the vertices after a place

-- all n of them, before the first
later_all : (n : ℕ) (p : List ℕ) → n ≤ 32 → Arranged n p → Later n 0 p (all_marks / 2 ^ (32 - n))
later_all n p b a =
    record {
      has = λ j l h.
          let low = a.within.low j (omega arith) h in
          let high = a.below j (omega arith) h in
          ap (λ (x : ℕ). x % 2) (shr-shr all_marks (32 - n) (at p j - 1)) ∙ all_bits (32 - n + (at p j - 1)) (omega arith);
      lacks = λ j l h. absurd (omega arith);
    }

pub early_low : (n i : ℕ) (p : List ℕ) → Arranged n p → 1 ≤ i → i ≤ 3 → 3 ≤ n → 1 ≤ at p i
early_low n i p a l h k = a.within.low i l (omega arith)

pub early_high : (n i : ℕ) (p : List ℕ) → Arranged n p → 1 ≤ i → i ≤ 3 → 3 ≤ n → at p i ≤ 32
early_high n i p a l h k = a.within.high i l (omega arith)

pub row_low : (n i : ℕ) (p q : List ℕ) → Places n p q → 3 ≤ i → i < n → 1 ≤ at p i
row_low n i p q a l h = a.arranged.within.low i (omega arith) (omega arith)

pub row_high : (n i : ℕ) (p q : List ℕ) → Places n p q → 3 ≤ i → i < n → at p i ≤ 32
row_high n i p q a l h = a.arranged.within.high i (omega arith) (omega arith)

pub without_is : (mask v x w r : ℕ) → v ≡ x → w ≡ 2 ^ (v - 1) → r ≡ mask - bit_and mask w → r ≡ mask - bit_and mask (2 ^ (x - 1))
without_is mask v x w r e q h = h ∙ rw (q, e)

-- without the vertex at i they are those after i
later_less : (n i : ℕ) (p : List ℕ) (mask : ℕ) → Arranged n p → Later n (i - 1) p mask → 1 ≤ i → i ≤ n → Later n i p (mask - bit_and mask (2 ^ (at p i - 1)))
later_less n i p mask a s l b =
    record {
      has = λ j k h.
          let low = a.within.low i l b in
          let other = a.within.low j (omega arith) h in
          let apart = a.once j i l k h in
          bit_of_without mask (2 ^ (at p i - 1)) (at p j - 1) ∙ rw (s.has j (omega arith) h, bit_of_power_other (at p i - 1) (at p j - 1) (λ q. apart (omega arith)));
      lacks = λ j k h.
          bit_of_without mask (2 ^ (at p i - 1)) (at p j - 1)
          ∙ by_same j i (λ (q : j ≡ i). rw (q, bit_of_power (at p i - 1)) (omega (arith, bit_small mask (at p i - 1)))) (λ (q : j ≢ i). rw (s.lacks j k (omega arith)) (omega arith));
    }

pub later_starts : (n : ℕ) (p : List ℕ) (all r : ℕ) → Arranged n p → 3 ≤ n → n ≤ 32 → all ≡ all_marks / 2 ^ (32 - n) - bit_and (all_marks / 2 ^ (32 - n)) (2 ^ (at p 1 - 1))
    → r ≡ all - bit_and all (2 ^ (at p 2 - 1)) → Later n 2 p r
later_starts n p all r a l b e q =
    rw (q, e) (later_less n 2 p _ a (later_less n 1 p (all_marks / 2 ^ (32 - n)) a (later_all n p b a) (omega arith) (omega arith)) (omega arith) (omega arith))

pub later_more : (n i : ℕ) (p q : List ℕ) (mask r : ℕ) → Places n p q → Later n (i - 1) p mask → 3 ≤ i → i < n → r ≡ mask - bit_and mask (2 ^ (at p i - 1)) → Later n i p r
later_more n i p q mask r a s l b e = rw e (later_less n i p mask a.arranged s (omega arith) (omega arith))

pub later_again : (n i : ℕ) (p q : List ℕ) (mask r : ℕ) → Places n p q → Later n (i - 1) p mask → 3 ≤ i → i < n → r ≡ mask - bit_and mask (2 ^ (at p i - 1)) → Later n (i + 1 - 1) p r
later_again n i p q mask r a s l b e = let place : i + 1 - 1 ≡ i = omega arith in rw place (later_more n i p q mask r a s l b e)

-- ---- rows that are alike

-- the bits after place i
after_place : (ones i j : ℕ) → i < j → bit ones (j - 1) ≡ bit (ones / 2 ^ i) (j - 1 - i)
after_place ones i j h =
    let place : j - 1 ≡ i + (j - 1 - i) = omega arith in
    ap (λ (k : ℕ). bit ones k) place ∙ ap (λ (x : ℕ). x % 2) (sym (shr-shr ones i (j - 1 - i)))

-- all places after i as bits, the first the lowest
all_after : (n i : ℕ) → n ≤ 32 → i ≤ n → all_marks / 2 ^ (32 - n) / 2 ^ i ≡ 2 ^ (n - i) - 1
all_after n i b l =
    let many : 32 - (32 - n) ≡ n = omega arith in
    let whole : all_marks / 2 ^ (32 - n) ≡ 2 ^ n - 1 = ones_shr 32 (32 - n) (omega arith) ∙ ap (λ (k : ℕ). 2 ^ k - 1) many in
    rw whole (ones_shr n i l)

-- nothing is unknown there
module _ (n i ones doubts marks hidden mask : ℕ) (sure : bit_or (doubts / 2 ^ i) (bit_and hidden mask) ≡ 0) where
  known_here : (j : ℕ) → i < j → j ≤ n → bit doubts (j - 1) ≡ 0
  known_here j l h = after_place doubts i j l ∙ rw (or_none (doubts / 2 ^ i) (bit_and hidden mask) sure).0 (bit_of_zero (j - 1 - i))

  known_mask : (k : ℕ) → bit mask k ≡ 1 → bit hidden k ≡ 0
  known_mask k s =
      let m = bit_of_and hidden mask k in
      let q : bit (bit_and hidden mask) k ≡ 0 = rw (or_none (doubts / 2 ^ i) (bit_and hidden mask) sure).1 (bit_of_zero k) in
      omega arith

  pub alike_none : ones / 2 ^ i ≡ 0 → eqb (bit_and marks mask) 0 ≡ true → Alike n i ones doubts marks hidden mask
  alike_none z e =
      record {
        known = known_here;
        known_there = known_mask;
        same = λ j k l h s.
            let none : bit marks k ≡ 0 = let m = bit_of_and marks mask k in let q : bit (bit_and marks mask) k ≡ 0 = rw (eqb-true (bit_and marks mask) 0 e) (bit_of_zero k) in omega arith in
            after_place ones i j l ∙ rw z (bit_of_zero (j - 1 - i)) ∙ sym none;
      }

  pub alike_all : n ≤ 32 → i < n → bit_and marks mask ≡ mask → eqb (ones / 2 ^ i) (all_marks / 2 ^ (32 - n) / 2 ^ i) ≡ true → Alike n i ones doubts marks hidden mask
  alike_all b less f e =
      record {
        known = known_here;
        known_there = known_mask;
        same = λ j k l h s.
            let all : bit marks k ≡ 1 = let m = bit_of_and marks mask k in let c : bit (bit_and marks mask) k ≡ bit mask k = rw f in omega arith in
            let whole : ones / 2 ^ i ≡ 2 ^ (n - i) - 1 = eqb-true (ones / 2 ^ i) (all_marks / 2 ^ (32 - n) / 2 ^ i) e ∙ all_after n i b (omega arith) in
            after_place ones i j l ∙ rw whole (ones_bit (n - i) (j - 1 - i) (omega arith)) ∙ sym all;
      }

pub alike_not : (n i ones doubts marks hidden mask : ℕ) → false ≡ true → Alike n i ones doubts marks hidden mask
alike_not n i ones doubts marks hidden mask e = absurd (false≢true e)

-- pairs that all go on
row_open : (t : Pair → ℕ) (i j m : ℕ) → ((k : ℕ) → j ≤ k → k < j + m → t (pair i k) ≡ 0) → walk_code t (along_row i j m) ≡ 0
unfolding along_row walk_code
row_open t i j zero h = refl
row_open t i j (suc m) h =
    code_rest t (pair i j) (along_row i (suc j) m) (h j (omega arith) (omega arith)) ∙ row_open t i (suc j) m (λ k a b. h k (omega arith) (omega arith))

module _ (e w p q : List ℕ) (n i u ones doubts marks hidden : ℕ) (pu : u ≡ at p i) (po : ones ≡ row e i) (pd : doubts ≡ row w i) (pm : marks ≡ row e u) (ph : hidden ≡ row w u) where
  -- a row goes on where nothing in it is unknown and each edge bit is as that of the vertex there
  row_open_from : ((k : ℕ) → i < k → k ≤ n → (bit doubts (k - 1) ≡ 0) × (bit hidden (at p k - 1) ≡ 0) × (bit ones (k - 1) ≡ bit marks (at p k - 1)))
      → 0 ≡ walk_code (turn_at row_before e w p q) (along_row i (i + 1) (n + 1 - (i + 1)))
  row_open_from same =
      sym
      (row_open (turn_at row_before e w p q) i (i + 1) (n + 1 - (i + 1))
      (λ k l h.
      let s = same k (omega arith) (omega arith) in
      sym
      (turn_is row_before e w p q i k u (at p k) ones doubts marks hidden 0 pu refl po pd pm ph
      (turn_by_rows row_before ones doubts marks hidden i k u (at p k) (at q i) (at q k) (bit ones (k - 1)) (bit marks (at p k - 1)) 0
      (count_known (bit ones (k - 1)) (bit doubts (k - 1)) _ s.0)
      (count_known (bit marks (at p k - 1)) (bit hidden (at p k - 1)) _ s.1)
      (turn_same (bit ones (k - 1)) (bit marks (at p k - 1)) i k u (at p k) s.2)))))

  -- an alike row does
  alike_open : (mask : ℕ) → Later n i p mask → Alike n i ones doubts marks hidden mask → 0 ≡ walk_code (turn_at row_before e w p q) (along_row i (i + 1) (n + 1 - (i + 1)))
  alike_open mask s a =
      row_open_from (λ k l h. let there = s.has k l h in (a.known k l h, a.known_there (at p k - 1) there, a.same k (at p k - 1) l h there))

-- so it is passed, whatever the places
pub alike_passes : (e w p : List ℕ) (n i u ones doubts marks hidden mask : ℕ) → u ≡ at p i → ones ≡ row e i → doubts ≡ row w i → marks ≡ row e u → hidden ≡ row w u → Later n i p mask
    → (b : Bool) → (b ≡ true → Alike n i ones doubts marks hidden mask) → b ≡ true → (q : List ℕ) → 0 ≡ walk_code (turn_at row_before e w p q) (along_row i (i + 1) (n + 1 - (i + 1)))
alike_passes e w p n i u ones doubts marks hidden mask pu po pd pm ph s b f t q = alike_open e w p q n i u ones doubts marks hidden pu po pd pm ph mask s (f t)

-- a row by words goes on with no edge after its place and no mark
pub bare_goes_on : (p : List ℕ) (n i ones marks : ℕ) → bit_or (ones / 2 ^ i) marks ≡ 0 → 0 ≡ walk_code (turn_with ones marks p) (along_row i (i + 1) (n + 1 - (i + 1)))
unfolding turn_with
bare_goes_on p n i ones marks h =
    let none = or_none (ones / 2 ^ i) marks h in
    sym
    (row_open (turn_with ones marks p) i (i + 1) (n + 1 - (i + 1))
    (λ k l m.
    let here : bit ones (k - 1) ≡ 0 = after_place ones i k (omega arith) ∙ ap (λ (x : ℕ). bit x (k - 1 - i)) none.0 ∙ bit_of_zero (k - 1 - i) in
    let there : bit marks (at p k - 1) ≡ 0 = ap (λ (x : ℕ). bit x (at p k - 1)) none.1 ∙ bit_of_zero (at p k - 1) in
    sym (turn_same (bit ones (k - 1)) (bit marks (at p k - 1)) i k (at p i) (at p k) (here ∙ sym there))))
