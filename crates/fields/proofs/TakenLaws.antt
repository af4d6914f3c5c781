-- What a reader's field says of the place.
use Prim.Native.Nat.{ℕ, ◌+◌, ◌*◌, ◌^◌, ◌≤◌, ◌<◌}
use mathlib.Core.Path.{◌≡◌, refl, sym, ◌∙◌}
use mathlib.Core.Bool.{Bool, true, false}
use mathlib.Core.List.{List}
use native.Mathlib.Omega.{arith}
use borrow.Author.Tests.{leb-true, lt-ltb}
use lib.ListN.{length}
use lib.Dec.{leb, ltb}
use Rattle.std.specs.Prelude.{Result, Ok, Err, is_ok}
use Rattle.std.proofs.Common.{true≢false}
use Rattle.laws.specs.Test.{both, unless}
use Rattle.laws.specs.Num.{num}
use Rattle.refusal.specs.declared.Refusal.{Refusal}
use Rattle.refusal.specs.declared.Refusal.TheVariants.{PastTheBytes, Width}
use Rattle.refusal.specs.Numbers.{refusal_told}
use Rattle.refusal.proofs.NumberLaws.{told_given, told_refused}
use Rattle.fields.specs.declared.reader.Taken.{Taken}
use Rattle.fields.specs.Bits.{bit_of}
use Rattle.fields.specs.Field.{field_answer}
use Rattle.fields.specs.Reader.{taken, taken_at}

-- ---- a field that is given

record Accepted (s : List ℕ) (place width : ℕ) : Type 0 where
  low : 1 ≤ width
  high : width ≤ 6
  within : place + width ≤ 8 * length s

-- where its three checks pass
passed : (a b c : Bool) (given v : ℕ) → is_ok {E = Refusal} (unless (both a b) (Err Width) (unless c (Err (PastTheBytes given)) (Ok v))) ≡ true
    → (a ≡ true) × (b ≡ true) × (c ≡ true)
unfolding both unless
passed true true true given v h = (refl, refl, refl)
passed true true false given v h = absurd (true≢false (sym h))
passed true false c given v h = absurd (true≢false (sym h))
passed false b c given v h = absurd (true≢false (sym h))

-- its width is 1 to 6, and it ends within the bytes
accepted : (s : List ℕ) (place width : ℕ) → is_ok (field_answer s place width) ≡ true → Accepted s place width
unfolding field_answer
accepted s place width h =
    let p : (leb 1 width ≡ true) × (leb width 6 ≡ true) × (leb (place + width) (8 * length s) ≡ true)
    = passed (leb 1 width) (leb width 6) (leb (place + width) (8 * length s)) (length s) (num (bit_of s) place width) h in
    record { low = leb-true _ _ p.0; high = leb-true _ _ p.1; within = leb-true _ _ p.2 }

-- ---- what they say together

module _ (f : Result ℕ Refusal) (place next given : ℕ) where
  abbrev chosen : Bool → Bool → Taken
  chosen fine room = unless fine (taken f place) (unless room (taken (Err (PastTheBytes given)) place) (taken f next))

  moves : (fine room : Bool) → is_ok f ≡ fine → refusal_told (chosen fine room).found ≡ 0 → chosen fine room ≡ taken f next
  unfolding unless
  moves true true e h = refl
  moves true false e h = absurd (omega arith)
  moves false room e h = absurd (true≢false (sym (told_given f h) ∙ e))

  stays : (fine room : Bool) → is_ok f ≡ fine → (refusal_told (chosen fine room).found ≡ 0 → ⊥) → (chosen fine room).next ≡ place
  unfolding unless
  stays true true e h = absurd (true≢false (sym e ∙ told_refused f h))
  stays true false e h = refl
  stays false room e h = refl

  same : (fine room : Bool) → is_ok f ≡ fine → (is_ok f ≡ true → room ≡ true) → (chosen fine room).found ≡ f
  unfolding unless
  same true true e r = refl
  same true false e r = absurd (true≢false (sym (r e)))
  same false room e r = refl

module _ (s : List ℕ) (place width : ℕ) where
  -- a field that the reader gives is the field at its place, and the place moves past it
  pub given_moves : refusal_told (taken_at s place width).found ≡ 0 → taken_at s place width ≡ taken (field_answer s place width) (place + width)
  unfolding taken_at
  given_moves h = moves (field_answer s place width) place (place + width) (length s) (is_ok (field_answer s place width)) (ltb (place + width) (2 ^ 64)) refl h

  -- a refused field leaves the place
  pub refused_stays : (refusal_told (taken_at s place width).found ≡ 0 → ⊥) → (taken_at s place width).next ≡ place
  unfolding taken_at
  refused_stays h = stays (field_answer s place width) place (place + width) (length s) (is_ok (field_answer s place width)) (ltb (place + width) (2 ^ 64)) refl h

  -- over fewer than 2 ^ 61 bytes the reader gives and refuses exactly what a field at its place does
  pub reader_is_field : length s < 2 ^ 61 → (taken_at s place width).found ≡ field_answer s place width
  unfolding taken_at
  reader_is_field few =
      same (field_answer s place width) place (place + width) (length s) (is_ok (field_answer s place width)) (ltb (place + width) (2 ^ 64)) refl
      (λ h. let a : Accepted s place width = accepted s place width h in lt-ltb (place + width) (2 ^ 64) (omega arith))

  -- a place to which the reader moves is within the bytes
  pub moves_within : refusal_told (taken_at s place width).found ≡ 0 → (taken_at s place width).next ≤ 8 * length s
  moves_within h =
      let m : taken_at s place width ≡ taken (field_answer s place width) (place + width) = given_moves h in
      let a : Accepted s place width = accepted s place width (told_given (field_answer s place width) (rw m at h)) in
      rw m a.within
