-- The code of the first part of a listing, and that the parts joined are the whole.
use Prim.Native.Nat.{ℕ, ◌+◌, ◌-◌, ◌≤◌, min}
use native.Mathlib.Omega.{arith}
use borrow.Author.Tests.{le-leb, leb-true}
use mathlib.Core.Path.{◌≡◌, refl, sym, ap, ◌∙◌}
use mathlib.Core.List.{List, [], ◌++◌, append-nil}
use lib.ListN.{length, take, drop, length-append, length-drop}
use lib.Seq.{take_all, take-append_seam, drop-length}
use lib.Dec.{leb}
use borrow.Rule.Slice.PartMut.{put_mid}
use Rattle.laws.specs.TestLaws.{pick_true, pick_false, fails}
use Rattle.judging.specs.declared.Verdict.TheVariants.{Refused}
use Rattle.judging.specs.declared.Judged.{Judged}
use Rattle.judging.specs.Answer.{without}
use Rattle.text.specs.Text.{bytes_of}
use Rattle.text.specs.Page.{poured}
use Rattle.line.specs.Line.{header_text, judged_line}
use Rattle.line.proofs.Room.{line_room}
use Rattle.listing.specs.declared.lines.Progress.{Progress}
use Rattle.listing.specs.Listing.{lines_of, listing_of}
use Rattle.listing.specs.Progress.{Begun, Parts, ended, further}
use Rattle.listing.proofs.Turning.{poured_whole}
use Rattle.listing.proofs.Parts.{no_lines, put_long, put_shown}

-- ---- the first part

-- the header is short
header_short : length header_text ≤ 8192
unfolding header_text bytes_of
header_short = omega arith

-- the listing of a book that is short enough
listing_short : (book : List ℕ) → length book ≤ 65536 → listing_of book ≡ header_text ++ lines_of 1 book
unfolding listing_of
listing_short book h = ap {B = List ℕ} (λ l. header_text ++ l) (pick_true (leb (length book) 65536) (lines_of 1 book) _ (le-leb (length book) 65536 h))

-- and of one that is not
listing_long : (book : List ℕ) → (length book ≤ 65536 → ⊥) → listing_of book ≡ header_text ++ judged_line 0 0 (without (Refused 10 0)) []
unfolding listing_of
listing_long book h =
    ap {B = List ℕ} (λ l. header_text ++ l)
    (pick_false (leb (length book) 65536) (lines_of 1 book) (judged_line 0 0 (without (Refused 10 0)) []) (fails (leb (length book) 65536) (λ t. h (leb-true (length book) 65536 t))))

-- the buffer, which was old, holds the header
module _ (book old mid : List ℕ) (used : ℕ) (big : 16384 ≤ length old) (head : (used ≡ min (length header_text) (length old)) × (mid ≡ poured header_text old)) where
  used_is : used ≡ length header_text
  used_is = omega (arith, head.0, header_short)

  mid_is : mid ≡ header_text ++ drop (length header_text) old
  mid_is = head.1 ∙ poured_whole header_text old (omega (arith, header_short))

  mid_long : length mid ≡ length old
  mid_long = rw mid_is (simp (length-append, length-drop) (omega (arith, header_short)))

  header_shown : take used mid ≡ header_text
  header_shown = rw (used_is, mid_is) (take-append_seam header_text (drop (length header_text) old))

  -- before the lines of the book
  pub begins : length book ≤ 65536 → Begun book mid (record { used = used; at = 0; number = 1 })
  begins h =
      record {
        shown = rw (header_shown, listing_short book h) refl;
        within = omega arith;
        counted = omega arith;
        room = omega (arith, used_is, mid_long, header_short);
      }

  -- or before the one line of a book that is too long
  module _ (judged : Judged) (last : List ℕ) (more : ℕ) (long : length book ≤ 65536 → ⊥) (is_judged : judged ≡ without (Refused 10 0))
      (put : (more ≡ min (length (judged_line 0 0 judged [])) (length (take (length mid - used) (drop used mid)))) × (last ≡ poured (judged_line 0 0 judged []) (take (length mid - used) (drop used mid)))) where
    room_is : take (length mid - used) (drop used mid) ≡ drop used mid
    room_is = take_all (length mid - used) (drop used mid) (rw (length-drop used mid) (omega arith))

    line_short : length (judged_line 0 0 judged []) ≤ 8192
    line_short = line_room 0 0 judged [] (omega arith) (omega arith)

    room_long : length (drop used mid) ≡ length mid - used
    room_long = length-drop used mid

    more_is : more ≡ length (judged_line 0 0 judged [])
    more_is = let m = rw room_is at put.0 in omega (arith, m, line_short, room_long, mid_long, used_is, header_short)

    last_is : last ≡ judged_line 0 0 judged [] ++ drop (length (judged_line 0 0 judged [])) (drop used mid)
    last_is = (rw room_is at put.1) ∙ poured_whole (judged_line 0 0 judged []) (drop used mid) (omega (arith, line_short, room_long, mid_long, used_is, header_short))

    fits : used + more ≤ length mid
    fits = omega (arith, more_is, line_short, mid_long, used_is, header_short)

    pub begins_too_long : Begun book (put_mid used (length mid - used) mid last) (record { used = used + more; at = length book; number = 1 })
    begins_too_long =
        record {
          shown =
              rw (put_shown mid last (judged_line 0 0 judged []) used more more_is fits last_is, header_shown, drop-length book, no_lines 1, append-nil (header_text ++ judged_line 0 0 judged []), listing_long book long, is_judged)
              refl;
          within = omega arith;
          counted = omega arith;
          room = rw (put_long mid last (judged_line 0 0 judged []) used more more_is fits last_is) fits;
        }

-- ---- all parts

-- the parts from a place on are the lines from there on
parts_lines : (book : List ℕ) {r : Progress} {text : List ℕ} → Parts book r text → text ≡ lines_of r.number (drop r.at book)
parts_lines book {r} (ended e) = rw (e, drop-length book) (sym (no_lines r.number))
parts_lines book (further {next = next} {out = out} part rest) = ap {B = List ℕ} (λ l. take next.used out ++ l) (parts_lines book rest) ∙ part.shown

-- so the first part and those that follow it to the end of the book, joined, are the listing
pub parts_listing : (book out : List ℕ) {r : Progress} {text : List ℕ} → Begun book out r → Parts book r text → take r.used out ++ text ≡ listing_of book
parts_listing book out {r} first rest = ap {B = List ℕ} (λ l. take r.used out ++ l) (parts_lines book rest) ∙ first.shown

-- the listing of an empty book is the header alone
pub listing_empty : listing_of [] ≡ header_text
listing_empty = listing_short [] (omega arith) ∙ ap {B = List ℕ} (λ l. header_text ++ l) (no_lines 1) ∙ append-nil header_text
