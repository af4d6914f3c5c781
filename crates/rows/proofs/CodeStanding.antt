-- What the code's test of the rows comes to.
use Prim.Native.Nat.{ℕ, ◌+◌, ◌-◌, ◌^◌, ◌≤◌}
use mathlib.Core.Path.{◌≡◌, refl, ap, ap₂, ◌∙◌}
use mathlib.Core.List.{List}
use native.Mathlib.Numerals.{add-one}
use native.Mathlib.Omega.{arith}
use lib.Dec.{leb, eqb}
use lib.Bits.{bit_and, bit_or, bit_xor}
use borrow.Author.Tests.{eq-eqb, eqb-true}
use Rattle.laws.specs.Test.{both, pick}
use Rattle.laws.specs.TestLaws.{both_first, both_second, both_hold, same_test}
use Rattle.laws.specs.UpTo.{all_up_to}
use Rattle.words.specs.Placed.{row}
use Rattle.rows.specs.Standing.{fault, row_fault, row_stands}
use Rattle.rows.proofs.Standing.{or_none}

pub fault_is : (e u f v diagonal inside w : ℕ) → w ≡ bit_or e u - bit_and (bit_or e u) inside
    → bit_or (bit_or (bit_or (bit_or (bit_xor e f) (bit_xor u v)) (bit_and e u)) (bit_and (bit_or e u) diagonal)) w ≡ fault e u f v diagonal inside
unfolding fault
fault_is e u f v diagonal inside w h = rw h

pub row_fault_is : (order : ℕ) (e u f v : List ℕ) (i p m r : ℕ) → p ≡ 2 ^ (i - 1) → m ≡ 2 ^ pick (leb i order) order 0 - 1
    → r ≡ fault (row e i) (row u i) (row f i) (row v i) p m → r ≡ row_fault order e u f v i
unfolding row_fault
row_fault_is order e u f v i p m r is_p is_m q = q ∙ ap₂ (fault (row e i) (row u i) (row f i) (row v i)) is_p is_m

-- no fault so far, and none at one row more
none_more : (a b : ℕ) → eqb (bit_or a b) 0 ≡ both (eqb a 0) (eqb b 0)
none_more a b =
    same_test (eqb (bit_or a b) 0) (both (eqb a 0) (eqb b 0))
    (λ t. let p = or_none a b (eqb-true (bit_or a b) 0 t) in both_hold _ _ (eq-eqb a 0 p.0) (eq-eqb b 0 p.1))
    (λ t. rw (eqb-true a 0 (both_first _ _ t), eqb-true b 0 (both_second _ _ t)))

module _ (order : ℕ) (e u f v : List ℕ) where
  pub faults_start : eqb 0 0 ≡ all_up_to (row_stands order e u f v) 0
  unfolding all_up_to
  faults_start = refl

  pub faults_turn : (i w r : ℕ) → eqb w 0 ≡ all_up_to (row_stands order e u f v) i → r ≡ row_fault order e u f v (i + 1)
      → eqb (bit_or w r) 0 ≡ all_up_to (row_stands order e u f v) (i + 1)
  unfolding all_up_to row_stands
  faults_turn i w r h q = none_more w r ∙ rw (add-one i, h) (rw (add-one i) at (ap (λ (x : ℕ). both (all_up_to (row_stands order e u f v) i) (eqb x 0)) q))

  pub faults_done : (i w : ℕ) → eqb w 0 ≡ all_up_to (row_stands order e u f v) i → i ≤ 32 → 32 ≤ i → eqb w 0 ≡ all_up_to (row_stands order e u f v) 32
  faults_done i w h a b = let q : i ≡ 32 = omega arith in h ∙ ap (all_up_to (row_stands order e u f v)) q
