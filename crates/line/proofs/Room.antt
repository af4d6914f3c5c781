-- How long a line can be.
use Prim.Native.Nat.{ℕ, ◌+◌, ◌*◌, ◌≤◌}
use native.Mathlib.Omega.{arith}
use mathlib.Core.Path.{◌≡◌}
use mathlib.Core.List.{List, [], ◌∷◌}
use lib.IntN.{ℤ}
use lib.ListN.{length, take, length-append, length-take}
use Rattle.judging.specs.declared.Verdict.{Verdict}
use Rattle.judging.specs.declared.Verdict.TheVariants.{Smaller, Nothing, Cut, Refused}
use Rattle.judging.specs.declared.Judged.{Judged}
use Rattle.text.specs.Text.{bytes_of}
use Rattle.text.specs.Decimal.{decimal, signed}
use Rattle.text.proofs.Lengths.{decimal_short, signed_short, listed_short}
use Rattle.line.specs.Line.{spaced, line_of, verdict_line, judged_line}

-- the space is one character
spaced_length : (f : List ℕ) → length (spaced f) ≡ length f + 1
unfolding spaced
spaced_length f = length-append f (32 ∷ [])

-- a line has 67 characters at most beside its lists
line_short : (number order row column steps : ℕ) (verdict arrangement : List ℕ) (clause : List ℤ) → length verdict ≤ 7 → length (line_of number order verdict row column steps arrangement clause) ≤ 67 + 12 * length arrangement + 12 * length clause
unfolding line_of
line_short number order row column steps verdict arrangement clause h =
    simp (length-append, spaced_length)
    (omega (arith, decimal_short number, decimal_short order, decimal_short row, decimal_short column, decimal_short steps, listed_short decimal (λ x. omega (arith, decimal_short x)) arrangement, listed_short signed signed_short clause))

-- and so for each verdict
verdict_short : (number order : ℕ) (v : Verdict) (arrangement : List ℕ) (clause : List ℤ) → length (verdict_line number order v arrangement clause) ≤ 67 + 12 * length arrangement + 12 * length clause
unfolding verdict_line bytes_of
verdict_short number order (Smaller row column steps) arrangement clause = line_short number order row column steps (bytes_of "smaller") arrangement clause (omega arith)
verdict_short number order (Nothing steps) arrangement clause = omega (arith, line_short number order 0 0 steps (bytes_of "none") [] [] (omega arith))
verdict_short number order (Cut steps) arrangement clause = omega (arith, line_short number order 0 0 steps (bytes_of "cut") [] [] (omega arith))
verdict_short number order (Refused refusal place) arrangement clause = omega (arith, line_short number 0 refusal 0 0 (bytes_of "refused") [] [] (omega arith))

-- 8,192 bytes are room for any line, where 32 places and 496 literals are all there can be
pub line_room : (number order : ℕ) (judged : Judged) (buffer : List ℤ) → order ≤ 32 → length buffer ≤ 496 → length (judged_line number order judged buffer) ≤ 8192
unfolding judged_line
line_room number order judged buffer a b =
    let p : length (take order judged.arrangement) ≤ 32 = rw (length-take order judged.arrangement) (omega arith) in
    let q : length (take judged.literals buffer) ≤ 496 = rw (length-take judged.literals buffer) (omega arith) in
    omega (arith, verdict_short number order judged.verdict (take order judged.arrangement) (take judged.literals buffer))
