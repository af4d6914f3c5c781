-- The code of one line.
use Prim.Native.Nat.{ℕ, ◌≤◌, min}
use native.Mathlib.Omega.{arith}
use mathlib.Core.Path.{◌≡◌, ◌∙◌, ap}
use mathlib.Core.List.{List, ◌++◌}
use lib.IntN.{ℤ, pos}
use lib.ListN.{length, drop, length-replicate}
use lib.Seq.{take_all}
use Rattle.std.specs.Prelude.{Result}
use Rattle.std.specs.Result.{ResultUnwrapsOrElse}
use Rattle.refusal.specs.declared.Refusal.{Refusal}
use Rattle.refusal.specs.Numbers.{value_told}
use Rattle.refusal.proofs.NumberLaws.{default_told}
use Rattle.graph.specs.declared.Graph.{Graph}
use Rattle.graph.specs.Answers.{no_graph}
use Rattle.record.specs.Answers.{record_at, read_answer}
use Rattle.judging.specs.declared.Judged.{Judged}
use Rattle.text.specs.Page.{poured}
use Rattle.line.specs.Line.{judged_line}
use Rattle.line.proofs.Room.{line_room}
use Rattle.listing.specs.Listing.{scratch, judged_record, literals_of, order_of, record_line}
use Rattle.listing.specs.Progress.{Put}
use Rattle.listing.proofs.Book.{order_small}

-- ---- the line of a record

-- a text that has room stands whole at the start of the buffer
pub poured_whole : (text old : List ℕ) → length text ≤ length old → poured text old ≡ text ++ drop (length text) old
unfolding poured
poured_whole text old h = rw (take_all (length old) text h)

-- the order of what is given for an answer is the answer's
pub order_given : (found : Result Graph Refusal) (g : Graph) → ResultUnwrapsOrElse found (λ h. h ≡ no_graph) g → g.order ≡ order_of found
order_given found g is_given = ap (λ (h : Graph). h.order) (default_told no_graph found g is_given)

-- the line that the code puts is the record's
lines_are : (number : ℕ) (s : List ℕ) (found : Result Graph Refusal) (judged : Judged) (literals : List ℤ) → found ≡ read_answer s → (judged ≡ judged_record found (length scratch)) × (literals ≡ literals_of found scratch) → judged_line number (order_of found) judged literals ≡ record_line number s
unfolding record_line
lines_are number s found judged literals is_found is_judged =
    let room : length scratch ≡ 496 = length-replicate 496 (pos 0) in
    rw (is_judged.0, is_judged.1, room, is_found)

module _ (number : ℕ) (s old out : List ℕ) (found : Result Graph Refusal) (judged : Judged) (literals : List ℤ) (order written : ℕ) (taken : Result ℕ Refusal) where
  pub line_put : 8192 ≤ length old
      → found ≡ read_answer s
      → order ≡ order_of found
      → (judged ≡ judged_record found (length scratch)) × (literals ≡ literals_of found scratch)
      → length literals ≡ length scratch
      → (written ≡ min (length (judged_line number order judged literals)) (length old)) × (out ≡ poured (judged_line number order judged literals) old)
      → (taken ≡ record_at s) × (value_told 0 taken ≤ length s)
      → Put number s old out (record { written = written; taken = taken })
  line_put h is_found is_order is_judged long is_line is_taken =
      let text : judged_line number order judged literals ≡ record_line number s = rw is_order (lines_are number s found judged literals is_found is_judged) in
      let few : length literals ≤ 496 = omega (arith, length-replicate 496 (pos 0)) in
      let small : order ≤ 32 = rw (is_order, is_found) (order_small s) in
      let short : length (record_line number s) ≤ 8192 = rw text at (line_room number order judged literals small few) in
      let whole : written ≡ min (length (record_line number s)) (length old) = rw text at is_line.0 in
      record {
        length_is = omega arith;
        text_is = (rw text at is_line.1) ∙ poured_whole (record_line number s) old (omega arith);
        short = omega arith;
        taken_is = is_taken.0;
        within = rw is_taken.0 at is_taken.1;
      }
