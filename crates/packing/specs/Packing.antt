-- One number that holds an answer: bits 0..31 the steps or a place, 32..37 the row, 38..43 the column, 44..52 the number of
-- literals, 56..63 the code.
use Rattle.std.specs.Prelude.{ℕ, ◌+◌, ◌*◌, ◌/◌, ◌%◌, ◌^◌, eqb, leb, Result, Ok, Err}
use Rattle.laws.specs.Test.{pick}
use Rattle.refusal.specs.declared.Refusal.{Refusal}
use Rattle.refusal.specs.Numbers.{number_of, place_of}
use Rattle.judging.specs.declared.Judged.{Judged}
use Rattle.judging.specs.Answer.{Told, told}

-- ---- fields

-- the number with these fields
unfoldable pub fields : ℕ → ℕ → ℕ → ℕ → ℕ → ℕ
fields low row column literals code = low + row * 2 ^ 32 + column * 2 ^ 38 + literals * 2 ^ 44 + code * 2 ^ 56

-- the bits of x from place k on, so many
abbrev pub bits_from : ℕ → ℕ → ℕ → ℕ
bits_from x k width = x / 2 ^ k % 2 ^ width

-- the fields of an answer
abbrev pub low_in : ℕ → ℕ
low_in x = bits_from x 0 32

abbrev pub row_in : ℕ → ℕ
row_in x = bits_from x 32 6

abbrev pub column_in : ℕ → ℕ
column_in x = bits_from x 38 6

abbrev pub literals_in : ℕ → ℕ
literals_in x = bits_from x 44 9

abbrev pub code_in : ℕ → ℕ
code_in x = bits_from x 56 8

-- ---- answers

-- a place as it is told: one above 4,294,967,295 is told as that number
unfoldable pub place_told : ℕ → ℕ
place_told place = pick (leb place 4294967295) place 4294967295

-- a refusal with its place
unfoldable pub refusal : ℕ → ℕ → ℕ
refusal number place = fields (place_told place) 0 0 0 (128 + number)

-- the code: 128 and the number for a refusal, else the verdict's kind
unfoldable pub code_told : Told → ℕ
code_told t = pick (eqb t.kind 3) (128 + t.refusal) t.kind

-- what stands in bits 0..31: the place for a refusal, else the steps
unfoldable pub low_told : Told → ℕ
low_told t = pick (eqb t.kind 3) (place_told t.place) t.steps

-- a judgement
unfoldable pub packed : Judged → ℕ
packed a = let t = told a.verdict in fields (low_told t) t.row t.column a.literals (code_told t)

-- a number of bytes, or the refusal where its number is not 0
unfoldable pub counted_by : ℕ → ℕ → ℕ → ℕ
counted_by number place count = pick (eqb number 0) (fields count 0 0 0 0) (refusal number place)

-- of an answer, a number of bytes, or the refusal
unfoldable pub counted : Result ℕ Refusal → ℕ
counted (Ok count) = fields count 0 0 0 0
counted (Err e) = refusal (number_of e) (place_of e)
