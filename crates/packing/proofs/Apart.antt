-- Each field of an answer is what was told.
use Prim.Native.Nat.{ℕ, ◌+◌, ◌≤◌, ◌<◌, ◌^◌}
use native.Mathlib.Omega.{arith}
use native.Mathlib.Decide.{ℕ_discrete}
use mathlib.Core.Path.{◌≡◌, refl, sym, ◌∙◌}
use mathlib.Core.Logic.{◌≢◌, ◌↔◌}
use borrow.Author.Tests.{le-leb, eq-eqb, ne_eqb}
use lib.Dec.{eqb, leb}
use Rattle.laws.specs.TestLaws.{pick_true, pick_false}
use Rattle.std.specs.Prelude.{Ok, Err}
use Rattle.refusal.specs.declared.Refusal.{Refusal}
use Rattle.refusal.specs.Numbers.{number_of, place_of}
use Rattle.refusal.proofs.NumberLaws.{number_range}
use Rattle.judging.specs.declared.Judged.{Judged}
use Rattle.judging.specs.Answer.{told}
use Rattle.packing.specs.Packing.{low_in, row_in, column_in, literals_in, code_in, fields, place_told, refusal, code_told, low_told, packed, counted_by, counted}
use Rattle.packing.proofs.Fields.{Fitting, low_is, row_is, column_is, literals_are, code_is, word_fits}
use Rattle.packing.proofs.Counting.{counted_bytes, counted_refusal}
use Rattle.packing.proofs.Bounds.{place_fits_lem, Bounded, judged_fits}

-- a place of 32 bits is told as it is
pub place_itself : (place : ℕ) → place ≤ 4294967295 → place_told place ≡ place
unfolding place_told
place_itself place h = pick_true (leb place 4294967295) place 4294967295 (le-leb place 4294967295 h)

-- ---- judgements, within the bounds that judging keeps

module _ (budget : ℕ) (a : Judged) (b : Bounded budget a) (h : budget < 2 ^ 32) where
  -- the row of the winning pair
  pub packed_row : row_in (packed a) ≡ (told a.verdict).row
  unfolding packed
  packed_row = row_is _ _ _ _ _ (judged_fits budget a b h)

  -- its column
  pub packed_column : column_in (packed a) ≡ (told a.verdict).column
  unfolding packed
  packed_column = column_is _ _ _ _ _ (judged_fits budget a b h)

  -- the number of literals
  pub packed_literals : literals_in (packed a) ≡ a.literals
  unfolding packed
  packed_literals = literals_are _ _ _ _ _ (judged_fits budget a b h)

  -- the code
  pub packed_code : code_in (packed a) ≡ code_told (told a.verdict)
  unfolding packed
  packed_code = code_is _ _ _ _ _ (judged_fits budget a b h)

  -- what stands in the low bits
  packed_low : low_in (packed a) ≡ low_told (told a.verdict)
  unfolding packed
  packed_low = low_is _ _ _ _ _ (judged_fits budget a b h)

  -- the code of a refusal is 128 and its number, that of any other verdict its kind
  pub packed_refusal : (told a.verdict).kind ≡ 3 → code_in (packed a) ≡ 128 + (told a.verdict).refusal
  unfolding code_told
  packed_refusal e = packed_code ∙ pick_true (eqb (told a.verdict).kind 3) _ _ (eq-eqb (told a.verdict).kind 3 e)

  pub packed_kind : (told a.verdict).kind ≢ 3 → code_in (packed a) ≡ (told a.verdict).kind
  unfolding code_told
  packed_kind ne = packed_code ∙ pick_false (eqb (told a.verdict).kind 3) _ _ (ne_eqb (told a.verdict).kind 3 ne)

  -- so a code below 3 is the verdict's kind, and the other way round
  pub code_kind : (k : ℕ) → k < 3 → (code_in (packed a) ≡ k) ↔ ((told a.verdict).kind ≡ k)
  code_kind k l = go (ℕ_discrete (told a.verdict).kind 3)
    where
      go : Dec ((told a.verdict).kind ≡ 3) → (code_in (packed a) ≡ k) ↔ ((told a.verdict).kind ≡ k)
      go (yes e) = (λ c. absurd (omega (arith, packed_refusal e)), λ c. absurd (omega arith))
      go (no ne) = (λ c. sym (packed_kind ne) ∙ c, λ c. packed_kind ne ∙ c)

  -- the place of a refusal
  pub packed_place : (told a.verdict).kind ≡ 3 → low_in (packed a) ≡ (told a.verdict).place
  unfolding low_told
  packed_place e =
      packed_low ∙ pick_true (eqb (told a.verdict).kind 3) _ _ (eq-eqb (told a.verdict).kind 3 e)
      ∙ place_itself (told a.verdict).place (omega arith)

  -- and otherwise the steps
  pub packed_steps : (told a.verdict).kind ≢ 3 → low_in (packed a) ≡ (told a.verdict).steps
  unfolding low_told
  packed_steps ne = packed_low ∙ pick_false (eqb (told a.verdict).kind 3) _ _ (ne_eqb (told a.verdict).kind 3 ne)

  -- all of it is 64 bits
  pub packed_fits : packed a < 2 ^ 64
  unfolding packed
  packed_fits = word_fits _ _ _ _ _ (judged_fits budget a b h)

-- ---- numbers of bytes

bytes_apart : (count : ℕ) → count ≤ 129 → (low_in (fields count 0 0 0 0) ≡ count) × (code_in (fields count 0 0 0 0) ≡ 0)
bytes_apart count h =
    let f : Fitting count 0 0 0 0 = omega arith in
    (low_is count 0 0 0 0 f, code_is count 0 0 0 0 f)

-- of any refusal its place, and 128 more than its number
pub refusal_apart : (number place : ℕ) → number < 128 → place ≤ 4294967295 → (low_in (refusal number place) ≡ place) × (code_in (refusal number place) ≡ 128 + number)
unfolding refusal
refusal_apart number place h small =
    let f : Fitting (place_told place) 0 0 0 (128 + number) = omega (arith, place_fits_lem place) in
    (low_is (place_told place) 0 0 0 (128 + number) f ∙ place_itself place small, code_is (place_told place) 0 0 0 (128 + number) f)

-- the bytes and code 0, where nothing is refused
pub counted_by_given : (number place count : ℕ) → number ≡ 0 → count ≤ 129 → (low_in (counted_by number place count) ≡ count) × (code_in (counted_by number place count) ≡ 0)
counted_by_given number place count e h = rw (sym (counted_bytes number place count (fields count 0 0 0 0) e refl)) (bytes_apart count h)

-- the place and 128 more than the number of a refusal
pub counted_by_refused : (number place count : ℕ) → number ≢ 0 → number < 128 → place ≤ 4294967295 → (low_in (counted_by number place count) ≡ place) × (code_in (counted_by number place count) ≡ 128 + number)
counted_by_refused number place count ne h small = rw (sym (counted_refusal number place count (refusal number place) ne refl)) (refusal_apart number place h small)

-- the same of an answer
pub counted_given : (count : ℕ) → count ≤ 129 → (low_in (counted (Ok count)) ≡ count) × (code_in (counted (Ok count)) ≡ 0)
unfolding counted
counted_given count h = bytes_apart count h

pub counted_refused : (e : Refusal) → place_of e ≤ 496 → (low_in (counted (Err e)) ≡ place_of e) × (code_in (counted (Err e)) ≡ 128 + number_of e)
unfolding counted
counted_refused e small = refusal_apart (number_of e) (place_of e) (omega (arith, number_range e)) (omega arith)
