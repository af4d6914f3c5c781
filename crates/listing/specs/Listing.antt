-- The listing of a book.
use Rattle.std.specs.Prelude.{ℕ, zero, suc, List, [], ◌∷◌, ◌++◌, ℤ, pos, length, replicate, leb, Result, Ok, Err, is_ok}
use Rattle.laws.specs.Test.{pick}
use Rattle.refusal.specs.declared.Refusal.{Refusal}
use Rattle.refusal.specs.Numbers.{number_of, place_of, value_told}
use Rattle.graph.specs.declared.Graph.{Graph}
use Rattle.graph.specs.Answers.{no_graph}
use Rattle.record.specs.Answers.{read_answer, rest_of}
use Rattle.judging.specs.declared.Verdict.TheVariants.{Refused}
use Rattle.judging.specs.declared.Judged.{Judged}
use Rattle.judging.specs.Answer.{without, judge_answer, judge_buffer}
use Rattle.line.specs.Line.{header_text, judged_line}

-- it judges by rows
abbrev pub mode : ℕ
mode = 1

-- how many steps judging may take
abbrev pub budget : ℕ
budget = 1000000

-- the room for literals
abbrev pub scratch : List ℤ
scratch = replicate 496 (pos 0)

-- the judgement of a record that was read, or its refusal
unfoldable pub judged_record : Result Graph Refusal → ℕ → Judged
judged_record (Ok g) room = judge_answer mode g budget room
judged_record (Err e) room = without (Refused (number_of e) (place_of e))

-- the room for literals afterwards
unfoldable pub literals_of : Result Graph Refusal → List ℤ → List ℤ
literals_of (Ok g) buffer = judge_buffer mode g budget buffer
literals_of (Err e) buffer = buffer

-- the order of a record that was read, or 0
abbrev pub order_of : Result Graph Refusal → ℕ
order_of found = (value_told no_graph found).order

-- the line of the record at the start of the bytes s
unfoldable pub record_line : ℕ → List ℕ → List ℕ
record_line number s =
    judged_line number (order_of (read_answer s)) (judged_record (read_answer s) 496) (literals_of (read_answer s) scratch)

-- the lines of the records that the bytes s hold back to back, of which k at most are read; a refused one is the last
unfoldable pub lines_up_to : ℕ → ℕ → List ℕ → List ℕ
lines_up_to zero number s = []
lines_up_to (suc k) number [] = []
lines_up_to (suc k) number (b ∷ s) =
    record_line number (b ∷ s) ++
    pick (is_ok (read_answer (b ∷ s))) (lines_up_to k (suc number) (rest_of (b ∷ s))) []

-- all of them: a record takes a byte at least
unfoldable pub lines_of : ℕ → List ℕ → List ℕ
lines_of number s = lines_up_to (length s) number s

-- the whole listing: the header, then the lines of the book, or of one above 65,536 bytes the line of refusal 10, numbered 0
unfoldable pub listing_of : List ℕ → List ℕ
listing_of book = header_text ++ pick (leb (length book) 65536) (lines_of 1 book) (judged_line 0 0 (without (Refused 10 0)) [])
