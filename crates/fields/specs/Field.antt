-- What a field gives, or why it is refused.
use Rattle.std.specs.Prelude.{ℕ, ◌+◌, ◌*◌, List, length, leb, Result, Ok, Err}
use Rattle.laws.specs.Test.{both, unless}
use Rattle.laws.specs.Num.{num}
use Rattle.refusal.specs.declared.Refusal.{Refusal}
use Rattle.refusal.specs.declared.Refusal.TheVariants.{PastTheBytes, Width}
use Rattle.fields.specs.Bits.{bit_of}

unfoldable pub field_answer : List ℕ → ℕ → ℕ → Result ℕ Refusal
field_answer s place width =
    unless (both (leb 1 width) (leb width 6)) (Err Width)
    (unless (leb (place + width) (8 * length s)) (Err (PastTheBytes (length s)))
    (Ok (num (bit_of s) place width)))
