-- What putting a line, or a part of the listing, into a buffer comes to.
use Rattle.std.specs.Prelude.{ℕ, ◌+◌, ◌≤◌, ◌<◌, ◌≡◌, List, [], ◌++◌, length, take, drop}
use Rattle.record.specs.Answers.{record_at, taken_from}
use Rattle.listing.specs.declared.lines.Turn.{Turn}
use Rattle.listing.specs.declared.lines.Progress.{Progress}
use Rattle.listing.specs.Listing.{record_line, lines_of, listing_of}

-- the line of the record at the start of s stands at the start of the buffer, which was old and is out
pub record Put (number : ℕ) (s old out : List ℕ) (r : Turn) : Type 0 where
  pub length_is : r.written ≡ length (record_line number s)
  pub text_is : out ≡ record_line number s ++ drop (length (record_line number s)) old
  pub short : r.written ≤ 8192
  pub taken_is : r.taken ≡ record_at s
  pub within : taken_from s ≤ length s

-- the part in the buffer out, and the lines from the place where it stopped, are the listing of the book
pub record Begun (book out : List ℕ) (r : Progress) : Type 0 where
  pub shown : take r.used out ++ lines_of r.number (drop r.at book) ≡ listing_of book
  pub within : r.at ≤ length book
  pub counted : r.number ≤ r.at + 1
  pub room : r.used ≤ length out

-- the part in the buffer out, and the lines from the place where it stopped, are the lines from the place where it began
pub record Listed (book : List ℕ) (at number : ℕ) (out : List ℕ) (r : Progress) : Type 0 where
  pub shown : take r.used out ++ lines_of r.number (drop r.at book) ≡ lines_of number (drop at book)
  pub onward : at < r.at
  pub within : r.at ≤ length book
  pub counted : r.number ≤ r.at + 1
  pub room : r.used ≤ length out

-- the parts that follow one another from a place of the book to its end, joined
pub data Parts (book : List ℕ) : Progress → List ℕ → Type 0 where
  ended : {r : Progress} → r.at ≡ length book → Parts book r []
  further : {r next : Progress} {out rest : List ℕ} → Listed book r.at r.number out next → Parts book next rest → Parts book r (take next.used out ++ rest)
