-- A buffer that is being written, byte after byte, as far as there is room.
use Rattle.std.specs.Prelude.{ℕ, ◌+◌, List, [], ◌∷◌, ◌++◌, length, take, drop, set, ltb}
use Rattle.laws.specs.Test.{pick}

-- the buffer, and the place of the next byte
pub record Page : Type 0 where
  pub text : List ℕ
  pub next : ℕ

abbrev pub page : List ℕ → ℕ → Page
page text next = record { text = text; next = next }

-- with one byte more, where there is room
unfoldable pub pushed : Page → ℕ → Page
pushed p b = pick (ltb p.next (length p.text)) (page (set p.text p.next b) (p.next + 1)) p

-- with these bytes, one after the other
unfoldable pub written : Page → List ℕ → Page
written p [] = p
written p (b ∷ bs) = written (pushed p b) bs

-- a text at the start of a buffer, as much of it as there is room for; what comes after it stays
unfoldable pub poured : List ℕ → List ℕ → List ℕ
poured text buffer = take (length buffer) text ++ drop (length text) buffer
