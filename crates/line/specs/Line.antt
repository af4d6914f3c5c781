-- The header and the lines of a listing.
use Rattle.std.specs.Prelude.{ℕ, List, [], ◌∷◌, ◌++◌, ℤ, take}
use Rattle.judging.specs.declared.Verdict.{Verdict}
use Rattle.judging.specs.declared.Verdict.TheVariants.{Smaller, Nothing, Cut, Refused}
use Rattle.judging.specs.declared.Judged.{Judged}
use Rattle.text.specs.Text.{bytes_of}
use Rattle.text.specs.Decimal.{decimal, signed}
use Rattle.text.specs.Lists.{listed}

-- a field, and the space after it
unfoldable pub spaced : List ℕ → List ℕ
spaced f = f ++ (32 ∷ [])

-- the header
unfoldable pub header_text : List ℕ
header_text = bytes_of "graph order verdict row column steps arrangement clause\n"

-- a line from its fields, with one space between two and the line's end after the last
unfoldable pub line_of : ℕ → ℕ → List ℕ → ℕ → ℕ → ℕ → List ℕ → List ℤ → List ℕ
line_of number order verdict row column steps arrangement clause =
    spaced (decimal number) ++
    (spaced (decimal order) ++
    (spaced verdict ++
    (spaced (decimal row) ++
    (spaced (decimal column) ++
    (spaced (decimal steps) ++
    (spaced (listed decimal arrangement) ++
    (listed signed clause ++ (10 ∷ []))))))))

-- the line of a verdict on the record with a number, of a graph of an order; a refusal shows order 0, and its number under row
unfoldable pub verdict_line : ℕ → ℕ → Verdict → List ℕ → List ℤ → List ℕ
verdict_line number order (Smaller row column steps) arrangement clause =
    line_of number order (bytes_of "smaller") row column steps arrangement clause
verdict_line number order (Nothing steps) arrangement clause = line_of number order (bytes_of "none") 0 0 steps [] []
verdict_line number order (Cut steps) arrangement clause = line_of number order (bytes_of "cut") 0 0 steps [] []
verdict_line number order (Refused refusal place) arrangement clause = line_of number 0 (bytes_of "refused") refusal 0 0 [] []

-- the line of an answer of judging, with the buffer that it wrote its literals to
unfoldable pub judged_line : ℕ → ℕ → Judged → List ℤ → List ℕ
judged_line number order judged buffer =
    verdict_line number order judged.verdict (take order judged.arrangement) (take judged.literals buffer)
