-- A reader over the caller's bytes: the bytes themselves and a bit place, what a field gives and where it leaves the place.
use Rattle.std.specs.Prelude.{ℕ, ◌+◌, ◌^◌, List, length, ltb, Result, Err, is_ok}
use Rattle.std.specs.Borrow.{Bor}
use Rattle.laws.specs.Test.{unless}
use Rattle.refusal.specs.declared.Refusal.{Refusal}
use Rattle.refusal.specs.declared.Refusal.TheVariants.{PastTheBytes}
use Rattle.fields.specs.declared.reader.Reader.{Reader}
use Rattle.fields.specs.declared.reader.Taken.{Taken}
use Rattle.fields.specs.declared.reader.Two.{Two}
use Rattle.fields.specs.Field.{field_answer}

abbrev pub taken : Result ℕ Refusal → ℕ → Taken
taken found next = record { found = found; next = next }

-- The field from a place on, and the place after it: past the field, or the same where the field is refused.
-- Places are numbers below 2 ^ 64, so a field that would leave the place at 2 ^ 64 or past it is refused 1 as well.
unfoldable pub taken_at : List ℕ → ℕ → ℕ → Taken
taken_at s place width =
    unless (is_ok (field_answer s place width)) (taken (field_answer s place width) place)
    (unless (ltb (place + width) (2 ^ 64)) (taken (Err (PastTheBytes (length s))) place)
    (taken (field_answer s place width) (place + width)))

-- a reader is opened over the caller's own bytes, at place 0
abbrev pub opened : Bor (List ℕ) → Reader
opened bytes = record { bytes = bytes; place = 0 }

-- what the reader's next field gives
abbrev pub field_ahead : Reader → ℕ → Taken
field_ahead r width = taken_at r.bytes.now r.place width

-- the reader over the same bytes, at another place
abbrev pub moved_to : Reader → ℕ → Reader
moved_to r place = record { bytes = r.bytes; place = place }

-- two fields: the second from where the first left the place
abbrev pub two_at : List ℕ → ℕ → ℕ → ℕ → Two
two_at s place first second =
    record {
      first = (taken_at s place first).found;
      second = (taken_at s (taken_at s place first).next second).found;
      next = (taken_at s (taken_at s place first).next second).next;
    }
