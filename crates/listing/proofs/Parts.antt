-- The code of the lines of a part, one after the other.
use Prim.Native.Nat.{ℕ, suc, ◌+◌, ◌-◌, ◌≤◌, ◌<◌}
use native.Mathlib.Omega.{arith}
use native.Mathlib.Numerals.{add-one}
use mathlib.Core.Path.{◌≡◌, refl, sym, ap, ◌∙◌}
use mathlib.Core.Bool.{true}
use mathlib.Core.List.{List, [], ◌++◌, append-nil, append_assoc}
use lib.ListN.{length, take, drop, length-append, length-drop}
use lib.Seq.{length-take-le, take_all, take-append_seam, take-append-add, drop-length, drop-drop}
use borrow.Rule.Slice.PartMut.{put_mid}
use Rattle.std.specs.Prelude.{Result, Ok, Err, is_ok}
use Rattle.std.specs.Result.{result_and}
use Rattle.refusal.specs.declared.Refusal.{Refusal}
use Rattle.refusal.proofs.NumberLaws.{given_told}
use Rattle.graph.specs.declared.Graph.{Graph}
use Rattle.fields.specs.Bits.{bit_of}
use Rattle.record.specs.Reading.{graph_in}
use Rattle.record.specs.Answers.{record_at, read_answer, rest_of}
use Rattle.record.proofs.ReadWritten.{read_takes}
use Rattle.listing.specs.declared.lines.Turn.{Turn}
use Rattle.listing.specs.Listing.{record_line, lines_up_to, lines_of}
use Rattle.listing.specs.Progress.{Put, Listed}
use Rattle.listing.proofs.Book.{lines_go_on, lines_end}

-- the lines of no bytes
pub no_lines : (number : ℕ) → lines_of number [] ≡ []
unfolding lines_of lines_up_to
no_lines number = refl

-- what has been listed so far: the used bytes of the buffer, and the lines from the place that was reached, are the lines from the start
pub record SoFar (book : List ℕ) (at number : ℕ) (out : List ℕ) (used from n : ℕ) : Type 0 where
  pub shown : take used out ++ lines_of n (drop from book) ≡ lines_of number (drop at book)
  pub room : used + 8192 ≤ length out
  pub onward : at ≤ from
  pub below : from < length book
  pub counted : n ≤ from + 1

-- nothing yet
pub none_yet : (book : List ℕ) (at number : ℕ) (out : List ℕ) → at < length book → number ≤ at + 1 → 8192 ≤ length out → SoFar book at number out 0 at number
none_yet book at number out a b h = record { shown = refl; room = omega arith; onward = omega arith; below = a; counted = b }

-- the start of a list with a text after its first part
take_middle : (pre text mid post : List ℕ) (u w : ℕ) → length pre ≡ u → length text ≡ w → take (u + w) (pre ++ ((text ++ mid) ++ post)) ≡ pre ++ text
take_middle pre text mid post u w a b =
    rw (← a, ← b, append_assoc text mid post)
    (take-append-add pre (text ++ (mid ++ post)) (length text) ∙ ap {B = List ℕ} (λ l. pre ++ l) (take-append_seam text (mid ++ post)))

-- a text that is put into a buffer after its used part
module _ (out last text : List ℕ) (used written : ℕ) (is_written : written ≡ length text) (room : used + written ≤ length out) (is_last : last ≡ text ++ drop (length text) (drop used out)) where
  used_long : length (take used out) ≡ used
  used_long = length-take-le used out (omega arith)

  -- the buffer keeps its length
  pub put_long : length (put_mid used (length out - used) out last) ≡ length out
  put_long = rw is_last (simp (length-append, length-drop, used_long) (omega arith))

  -- and begins with the used part and the text
  pub put_shown : take (used + written) (put_mid used (length out - used) out last) ≡ take used out ++ text
  put_shown = rw is_last (take_middle (take used out) text (drop (length text) (drop used out)) (drop (length out - used) (drop used out)) used written used_long (sym is_written))

-- reading refuses exactly where there is no record
reads_so : (s : List ℕ) (r : Result ℕ Refusal) → record_at s ≡ r → is_ok (read_answer s) ≡ is_ok r
unfolding read_answer
reads_so s r e = rw e (alike r (graph_in (bit_of s)))
  where
    alike : (a : Result ℕ Refusal) (g : Graph) → is_ok {E = Refusal} (result_and a (Ok g)) ≡ is_ok a
    alike (Ok n) g = refl
    alike (Err e) g = refl

-- a line more
module _ (book : List ℕ) (at number : ℕ) (out : List ℕ) (used from n : ℕ) (last : List ℕ) (turn : Turn)
    (before : SoFar book at number out used from n)
    (put : Put n (take (length book - from) (drop from book)) (take (length out - used) (drop used out)) last turn) where
  -- the part of the book that is lent
  bytes_are : take (length book - from) (drop from book) ≡ drop from book
  bytes_are = take_all (length book - from) (drop from book) (rw (length-drop from book) (omega arith))

  -- the part of the buffer that is lent
  room_is : take (length out - used) (drop used out) ≡ drop used out
  room_is = take_all (length out - used) (drop used out) (rw (length-drop used out) (omega arith))

  -- the bytes of the new line
  written_is : turn.written ≡ length (record_line n (drop from book))
  written_is = rw bytes_are at put.length_is

  -- what the lent part of the buffer holds afterwards
  last_is : last ≡ record_line n (drop from book) ++ drop (length (record_line n (drop from book))) (drop used out)
  last_is = rw (bytes_are, room_is) at put.text_is

  -- there is room for it
  fits : used + turn.written ≤ length out
  fits = omega (arith, put.short, before.room)

  -- the buffer keeps its length
  after_long : length (put_mid used (length out - used) out last) ≡ length out
  after_long = put_long out last (record_line n (drop from book)) used turn.written written_is fits last_is

  -- and begins with the lines so far and the new one
  after_is : take (used + turn.written) (put_mid used (length out - used) out last) ≡ take used out ++ record_line n (drop from book)
  after_is = put_shown out last (record_line n (drop from book)) used turn.written written_is fits last_is

  -- there is a byte to be read
  some : 1 ≤ length (drop from book)
  some = rw (length-drop from book) (omega (arith, before.below))

  -- what its record takes, or its refusal
  taken_is : turn.taken ≡ record_at (drop from book)
  taken_is = rw bytes_are at put.taken_is

  -- a refused record ends the list
  pub ends_refused : (e : Refusal) → turn.taken ≡ Err e → Listed book at number (put_mid used (length out - used) out last) (record { used = used + turn.written; at = length book; number = n + 1 })
  ends_refused e refused =
      let ended = lines_end n (drop from book) some (reads_so (drop from book) (Err e) (sym taken_is ∙ refused)) in
      record {
        shown = rw (after_is, drop-length book, no_lines (n + 1), append-nil (take used out ++ record_line n (drop from book)), ← ended) before.shown;
        onward = omega arith;
        within = omega arith;
        counted = omega arith;
        room = rw after_long (omega arith);
      }

  module _ (taken : ℕ) (accepted : turn.taken ≡ Ok taken) where
    -- the record at the place
    found : record_at (drop from book) ≡ Ok taken
    found = sym taken_is ∙ accepted

    -- it is read
    read_fine : is_ok (read_answer (drop from book)) ≡ true
    read_fine = reads_so (drop from book) (Ok taken) found

    -- it takes some bytes, and no more than there are
    pub takes_some : (1 ≤ taken) × (from + taken ≤ length book)
    takes_some =
        let least = rw found at (read_takes (drop from book) (given_told (read_answer (drop from book)) read_fine)).0 in
        let most = rw (bytes_are, found, length-drop from book) at put.within in
        (least, omega (arith, most, before.below))

    -- what follows it stands after these
    rest_at : drop (from + taken) book ≡ rest_of (drop from book)
    unfolding rest_of
    rest_at = rw (found, ← drop-drop taken from book)

    -- the lines so far, the new one and those that follow
    shown_on : take (used + turn.written) (put_mid used (length out - used) out last) ++ lines_of (n + 1) (drop (from + taken) book) ≡ lines_of number (drop at book)
    shown_on =
        rw (after_is, rest_at, add-one n, append_assoc (take used out) (record_line n (drop from book)) (lines_of (suc n) (rest_of (drop from book))), ← lines_go_on n (drop from book) some read_fine)
        before.shown

    -- the list may end here
    pub ends_here : Listed book at number (put_mid used (length out - used) out last) (record { used = used + turn.written; at = from + taken; number = n + 1 })
    ends_here =
        record {
          shown = shown_on;
          onward = omega (arith, takes_some);
          within = omega (arith, takes_some);
          counted = omega (arith, takes_some);
          room = rw after_long (omega arith);
        }

    -- or go on
    pub goes_on : (from + taken ≡ length book → ⊥) → 8192 ≤ length (put_mid used (length out - used) out last) - (used + turn.written) → SoFar book at number (put_mid used (length out - used) out last) (used + turn.written) (from + taken) (n + 1)
    goes_on h r =
        record {
          shown = shown_on;
          room = omega arith;
          onward = omega (arith, takes_some);
          below = omega (arith, takes_some);
          counted = omega (arith, takes_some);
        }
