-- A row whose vertex i stands at place i: each bit is taken from the row with its unknowns or without them.
use Prim.Native.Nat.{ℕ, ◌+◌, ◌-◌, ◌≤◌, ◌<◌, max}
use native.Mathlib.Omega.{arith}
use mathlib.Core.Path.{◌≡◌, refl, sym, ap, ◌∙◌}
use mathlib.Core.Logic.{◌≢◌, ◌⊎◌, inl, inr}
use mathlib.Core.Bool.{Bool, true, false, not}
use mathlib.Core.List.{List}
use lib.Bits.{bit_and, bit_or}
use lib.Dec.{eqb, ltb}
use borrow.Author.Tests.{eq-eqb, ne_eqb, ltb-true, lt-ltb, le-ltb}
use Rattle.laws.specs.Test.{pick}
use Rattle.laws.specs.TestLaws.{same_test}
use Rattle.laws.specs.Bit.{bit}
use Rattle.laws.specs.BitLaws.{bit_small, bit_of_or}
use Rattle.laws.specs.Compared.{by_same}
use Rattle.laws.specs.Masks.{bit_of_without}
use Rattle.words.specs.Placed.{row}
use Rattle.arrangements.specs.Arrangement.{at}
use Rattle.pairs.specs.Pairs.{pair, along_row}
use Rattle.pairs.proofs.PairLaws.{along_given}
use Rattle.plain.specs.Plain.{same_pair, pair_of_two}
use Rattle.plain.specs.Before.{row_before}
use Rattle.plain.proofs.Before.{two_row}
use Rattle.turns.specs.Turns.{count_by, turn_by, turn_of, turn_at, walk_code, Places}
use Rattle.row_walks.specs.RowWords.{turn_fixed}
use Rattle.turns.proofs.CodeTurns.{own_rising, place_low, walk_alike}
use Rattle.row_walks.proofs.CodeRows.{row_goes_on}
use Rattle.turns.proofs.TurnCodes.{count_most}

-- the words of a row whose vertex i stands at place i
word_picked : (ones doubts k : ℕ) (t : Bool) → bit (pick t (bit_or ones doubts) (ones - bit_and ones doubts)) k ≡ count_by (bit ones k) (bit doubts k) t
unfolding count_by pick
word_picked ones doubts k t = at t (bit ones k) (bit doubts k) (bit_small ones k) (bit_small doubts k) (bit_of_or ones doubts k) (bit_of_without ones doubts k)
  where
    at : (t : Bool) (a b : ℕ) → a < 2 → b < 2 → bit (bit_or ones doubts) k ≡ max a b → bit (ones - bit_and ones doubts) k ≡ a - b
        → bit (pick t (bit_or ones doubts) (ones - bit_and ones doubts)) k ≡ pick (eqb b 1) (pick t 1 0) a
    at true a b x y e f = by_same b 1 (λ (z : b ≡ 1). rw (eq-eqb b 1 z) (omega arith)) (λ (z : b ≢ 1). rw (ne_eqb b 1 z) (omega arith))
    at false a b x y e f = by_same b 1 (λ (z : b ≡ 1). rw (eq-eqb b 1 z) (omega arith)) (λ (z : b ≢ 1). rw (ne_eqb b 1 z) (omega arith))

-- and turned round
word_dropped : (ones doubts k : ℕ) (t : Bool) → bit (pick t (ones - bit_and ones doubts) (bit_or ones doubts)) k ≡ count_by (bit ones k) (bit doubts k) (not t)
unfolding pick
word_dropped ones doubts k true = word_picked ones doubts k false
word_dropped ones doubts k false = word_picked ones doubts k true

-- a pair whose vertex stands at its own place goes on: it is met against itself
own_none : (a b : ℕ) (own : Bool) → a ≤ b → b < 2 → own ≡ true → turn_by a b own ≡ 0
unfolding turn_by pick
own_none a b own l h e = by_same a b (λ (z : a ≡ b). rw (eq-eqb a b z)) (λ (z : a ≢ b). let o : a ≢ 1 = λ w. z (omega arith) in rw (ne_eqb a b z, ne_eqb a 1 o, e))

pub fixed_stays : (p q : List ℕ) (ones doubts n i j v whole : ℕ) → walk_code (turn_fixed ones doubts p q) (along_row i j (n + 1 - j)) ≡ whole → i < j → j ≤ n → v ≡ at p j → v ≡ j
    → walk_code (turn_fixed ones doubts p q) (along_row i (j + 1) (n + 1 - (j + 1))) ≡ whole
unfolding turn_fixed
fixed_stays p q ones doubts n i j v whole left l h pv own =
    let stays : at p j ≡ j = sym pv ∙ own in
    let below : bit (pick (ltb (at q j) j) (bit_or ones doubts) (ones - bit_and ones doubts)) (j - 1) ≤ bit (pick (ltb (at p j) j) (ones - bit_and ones doubts) (bit_or ones doubts)) (at p j - 1) =
    rw (word_picked ones doubts (j - 1) (ltb (at q j) j), word_dropped ones doubts (at p j - 1) (ltb (at p j) j), stays, le-ltb j j (omega arith)) (count_most (bit ones (j - 1)) (bit doubts (j - 1)) (ltb (at q j) j)) in
    row_goes_on (turn_fixed ones doubts p q) n i j whole left 0 h
    (sym (own_none (bit (pick (ltb (at q j) j) (bit_or ones doubts) (ones - bit_and ones doubts)) (j - 1)) (bit (pick (ltb (at p j) j) (ones - bit_and ones doubts) (bit_or ones doubts)) (at p j - 1))
    (same_pair (pair_of_two i (at p j)) (pair i j)) below (bit_small (pick (ltb (at p j) j) (ones - bit_and ones doubts) (bit_or ones doubts)) (at p j - 1))
    (sym (own_rising i j i (at p j) (omega arith) refl) ∙ eq-eqb (at p j) j stays)))
    refl

-- the pair of i and b comes before (i, j) exactly where b is below j
two_along : (b i j : ℕ) → 1 ≤ i → 1 ≤ b → i < j → row_before (pair_of_two i b) (pair i j) ≡ ltb b j
two_along b i j li lb l =
    let r = two_row i b i j li lb in
    same_test (row_before (pair_of_two i b) (pair i j)) (ltb b j) (λ t. lt-ltb b j (to (r.0 t))) (λ t. r.1 (inr (inr (inl (refl, ltb-true b j t)))))
  where
    to : (i < i) ⊎ (b < i) ⊎ ((i ≡ i) × (b < j)) ⊎ ((b ≡ i) × (i < j)) → b < j
    to (inl x) = omega arith
    to (inr (inl x)) = omega arith
    to (inr (inr (inl x))) = x.1
    to (inr (inr (inr x))) = omega (arith, x.0)

pub fixed_row : (e w p q : List ℕ) (n i u ones doubts r : ℕ) → n ≤ 32 → 1 ≤ i → i < n → Places n p q → u ≡ at p i → u ≡ i → ones ≡ row e i → doubts ≡ row w i
    → r ≡ walk_code (turn_fixed ones doubts p q) (along_row i (i + 1) (n + 1 - (i + 1))) → r ≡ walk_code (turn_at row_before e w p q) (along_row i (i + 1) (n + 1 - (i + 1)))
unfolding turn_fixed turn_at turn_of
fixed_row e w p q n i u ones doubts r small li hi h pu fixed po pd z =
    let here : at p i ≡ i = sym pu ∙ fixed in
    let place : at q i ≡ i = ap (at q) (sym here) ∙ h.undone i li (omega arith) in
    z
    ∙ walk_alike (turn_fixed ones doubts p q) (turn_at row_before e w p q) (along_row i (i + 1) (n + 1 - (i + 1)))
    (λ k m.
    let g = along_given i (i + 1) (n + 1 - (i + 1)) k m in
    let j : ℕ = k.column in
    let lj : i < k.column = omega arith in
    let hj : k.column ≤ n = omega arith in
    let a = two_along (at q k.column) i k.column li (place_low n p q h k.column (omega arith) hj) lj in
    let b = two_along (at p k.column) i k.column li (h.arranged.within.low k.column (omega arith) hj) lj in
    rw (g.same_row, here, place, a, b, word_picked ones doubts (k.column - 1) (ltb (at q k.column) k.column), word_dropped ones doubts (at p k.column - 1) (ltb (at p k.column) k.column), po, pd))
