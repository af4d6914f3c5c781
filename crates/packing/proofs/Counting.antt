-- A number of bytes or a refusal, by the refusal's number.
use Prim.Native.Nat.{ℕ, ◌<◌}
use native.Mathlib.Omega.{arith}
use mathlib.Core.Path.{◌≡◌, refl, sym, ◌∙◌}
use borrow.Author.Tests.{eq-eqb, ne_eqb}
use lib.Dec.{eqb}
use Rattle.laws.specs.TestLaws.{pick_true, pick_false}
use Rattle.refusal.specs.declared.Refusal.{Refusal}
use Rattle.refusal.specs.Numbers.{number_of, place_of}
use Rattle.refusal.proofs.NumberLaws.{number_range}
use Rattle.packing.specs.Packing.{fields, refusal, counted_by}

-- without a refusal, the bytes
pub counted_bytes : (number place count x : ℕ) → number ≡ 0 → x ≡ fields count 0 0 0 0 → x ≡ counted_by number place count
unfolding counted_by
counted_bytes number place count x e q = q ∙ sym (pick_true (eqb number 0) (fields count 0 0 0 0) (refusal number place) (eq-eqb number 0 e))

-- with one, the refusal
pub counted_refusal : (number place count x : ℕ) → (number ≡ 0 → ⊥) → x ≡ refusal number place → x ≡ counted_by number place count
unfolding counted_by
counted_refusal number place count x ne q = q ∙ sym (pick_false (eqb number 0) (fields count 0 0 0 0) (refusal number place) (ne_eqb number 0 ne))

-- so of a number of bytes
pub told_bytes : (count : ℕ) → counted_by 0 0 count ≡ fields count 0 0 0 0
told_bytes count = sym (counted_bytes 0 0 count (fields count 0 0 0 0) refl refl)

-- and of a refusal, whose number is not 0
pub told_number : (e : Refusal) → number_of e < 128
told_number e = omega (arith, number_range e)

pub told_refusal : (e : Refusal) (x : ℕ) → x ≡ counted_by (number_of e) (place_of e) 0 → x ≡ refusal (number_of e) (place_of e)
told_refusal e x is = is ∙ sym (counted_refusal (number_of e) (place_of e) 0 (refusal (number_of e) (place_of e)) (λ z. omega (arith, number_range e)) refl)
