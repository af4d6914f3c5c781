-- What the number that an answer tells says of it.
use Rattle.std.specs.Prelude.{◌≡◌, ◌≤◌, Result, Ok, Err, true, false, is_ok}
use Rattle.std.specs.Result.{ResultUnwrapsOrElse}
use Rattle.std.proofs.lemmas.Bool.{false≢true}
use Rattle.std.proofs.Common.{refl, arith}
use Rattle.refusal.specs.declared.Refusal.{Refusal}
use Rattle.refusal.specs.declared.Refusal.TheVariants.{PastTheBytes, Order, Entry, Pad, LiteralRoom, OutputRoom, Vertex, Malformed, Value, LongBook, Arrangement, Width, Mode}
use Rattle.refusal.specs.Numbers.{number_of, refusal_told, value_told}

-- a refusal has a number from 1 to 16
pub number_range : (e : Refusal) → (1 ≤ number_of e) × (number_of e ≤ 16)
number_range (PastTheBytes given) = omega arith
number_range (Order order) = omega arith
number_range (Entry pair) = omega arith
number_range Pad = omega arith
number_range LiteralRoom = omega arith
number_range OutputRoom = omega arith
number_range Vertex = omega arith
number_range Malformed = omega arith
number_range Value = omega arith
number_range LongBook = omega arith
number_range Arrangement = omega arith
number_range Width = omega arith
number_range Mode = omega arith

-- so an answer that tells 0 is a value
pub told_given : {A : Type 0} (r : Result A Refusal) → refusal_told r ≡ 0 → is_ok r ≡ true
told_given (Ok value) h = refl
told_given (Err refusal) h = absurd (omega (arith, number_range refusal))

-- and one that tells another number is refused
pub told_refused : {A : Type 0} (r : Result A Refusal) → (refusal_told r ≡ 0 → ⊥) → is_ok r ≡ false
told_refused (Ok value) h = absurd (h refl)
told_refused (Err refusal) h = refl

-- the other way, a value tells 0
pub given_told : {A : Type 0} (r : Result A Refusal) → is_ok r ≡ true → refusal_told r ≡ 0
given_told (Ok value) h = refl
given_told (Err refusal) h = absurd (false≢true h)

-- a refused answer has for its value what stands for it: the graph of order 0, or zeros
pub refused_value : {A : Type 0} (none : A) (r : Result A Refusal) → (refusal_told r ≡ 0 → ⊥) → value_told none r ≡ none
refused_value none (Ok value) h = absurd (h refl)
refused_value none (Err refusal) h = refl

-- what stands for it is the default of the value's type: that is what the library's `unwrap_or_default` gives
pub default_told : {A : Type 0} (none : A) (r : Result A Refusal) (x : A) → ResultUnwrapsOrElse r (λ y. y ≡ none) x → x ≡ value_told none r
default_told none (Ok value) x is_given = is_given
default_told none (Err refusal) x is_given = is_given

-- so of a refused answer it gives a default: the graph of order 0, or zeros
pub refused_default : {A : Type 0} (IsDefault : A → Type 0) (r : Result A Refusal) (x : A) → (refusal_told r ≡ 0 → ⊥) → ResultUnwrapsOrElse r IsDefault x → IsDefault x
refused_default IsDefault (Ok value) x h is_given = absurd (h refl)
refused_default IsDefault (Err refusal) x h is_given = is_given
