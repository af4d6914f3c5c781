-- The numbers of refusal, the place that is given with each, and what an answer that may be refused tells.
use Rattle.std.specs.Prelude.{ℕ, Result, Ok, Err}
use Rattle.std.specs.Result.{result_unwrap_or}
use Rattle.refusal.specs.declared.Refusal.{Refusal}
use Rattle.refusal.specs.declared.Refusal.TheVariants.{PastTheBytes, Order, Entry, Pad, LiteralRoom, OutputRoom, Vertex, Malformed, Value, LongBook, Arrangement, Width, Mode}

-- its number
abbrev pub number_of : Refusal → ℕ
number_of (PastTheBytes given) = 1
number_of (Order order) = 2
number_of (Entry pair) = 3
number_of Pad = 4
number_of LiteralRoom = 5
number_of OutputRoom = 6
number_of Vertex = 7
number_of Malformed = 8
number_of Value = 9
number_of LongBook = 10
number_of Arrangement = 11
number_of Width = 12
number_of Mode = 16

-- the place: how many bytes were given, the order, the first such pair's number, and else 0
abbrev pub place_of : Refusal → ℕ
place_of (PastTheBytes given) = given
place_of (Order order) = order
place_of (Entry pair) = pair
place_of Pad = 0
place_of LiteralRoom = 0
place_of OutputRoom = 0
place_of Vertex = 0
place_of Malformed = 0
place_of Value = 0
place_of LongBook = 0
place_of Arrangement = 0
place_of Width = 0
place_of Mode = 0

-- ---- an answer's number, place and value

-- the number of its refusal, or 0
abbrev pub refusal_told : {A : Type 0} → Result A Refusal → ℕ
refusal_told (Ok value) = 0
refusal_told (Err refusal) = number_of refusal

-- the place of its refusal, or 0
abbrev pub place_told : {A : Type 0} → Result A Refusal → ℕ
place_told (Ok value) = 0
place_told (Err refusal) = place_of refusal

-- its value, or what stands for it where it is refused
abbrev pub value_told : {A : Type 0} → A → Result A Refusal → A
value_told none answer = result_unwrap_or answer none
