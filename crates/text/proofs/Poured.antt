-- A text written at the start of a buffer.
use Prim.Native.Nat.{ℕ, suc, ◌+◌, ◌≤◌, ◌<◌, min}
use native.Mathlib.Omega.{arith}
use mathlib.Core.Path.{◌≡◌, refl, sym, ap, ap₂, ◌∙◌}
use mathlib.Core.List.{List, [], ◌∷◌, ◌++◌, append-nil, append_assoc}
use lib.ListN.{length, set, length-append}
use lib.Seq.{take-nil, set-append_seam}
use Rattle.text.specs.Page.{Page, page, pushed, written, poured}
use Rattle.text.specs.declared.writer.Writer.{Writer}
use Rattle.text.specs.Writer.{Puts}
use Rattle.text.proofs.Pages.{pushes, stays}

-- a full buffer stays
written_full : (out : List ℕ) (at : ℕ) (xs : List ℕ) → length out ≤ at → written (page out at) xs ≡ page out at
unfolding written
written_full out at [] h = refl
written_full out at (x ∷ xs) h = rw (← stays out at x h) (written_full out at xs h)

-- a byte after ys
pushes_after : (ys : List ℕ) (x o : ℕ) (old : List ℕ) → pushed (page (ys ++ o ∷ old) (length ys)) x ≡ page ((ys ++ (x ∷ [])) ++ old) (length (ys ++ (x ∷ [])))
pushes_after ys x o old =
    let room : length ys < length (ys ++ o ∷ old) = rw (length-append ys (o ∷ old)) (omega arith) in
    let placed : set (ys ++ o ∷ old) (length ys) x ≡ (ys ++ (x ∷ [])) ++ old = set-append_seam ys o old x ∙ sym (append_assoc ys (x ∷ []) old) in
    let more : length ys + 1 ≡ length (ys ++ (x ∷ [])) = sym (length-append ys (x ∷ [])) in
    sym (pushes (ys ++ o ∷ old) (length ys) x room) ∙ ap₂ page placed more

-- after ys, the text xs stands at the start of what is left of the buffer
written_after : (ys xs old : List ℕ) → written (page (ys ++ old) (length ys)) xs ≡ page (ys ++ poured xs old) (length ys + min (length xs) (length old))
unfolding written poured
written_after ys [] old =
    let none : length ys ≡ length ys + min 0 (length old) = omega arith in
    rw (take-nil (length old)) (ap (page (ys ++ old)) none)
written_after ys (x ∷ xs) [] =
    let full : length (ys ++ []) ≤ length ys = rw (append-nil ys) (omega arith) in
    let none : length ys ≡ length ys + min (suc (length xs)) 0 = omega arith in
    written_full (ys ++ []) (length ys) (x ∷ xs) full ∙ ap (page (ys ++ [])) none
written_after ys (x ∷ xs) (o ∷ old) =
    let more : length (ys ++ (x ∷ [])) + min (length xs) (length old) ≡ length ys + min (suc (length xs)) (suc (length old)) = rw (length-append ys (x ∷ [])) (omega arith) in
    rw (pushes_after ys x o old) (written_after (ys ++ (x ∷ [])) xs old ∙ ap₂ page (append_assoc ys (x ∷ []) (poured xs old)) more)

-- a text written from the start
pub written_whole : (xs old : List ℕ) → written (page old 0) xs ≡ page (poured xs old) (min (length xs) (length old))
written_whole xs old =
    let e : 0 + min (length xs) (length old) ≡ min (length xs) (length old) = omega arith in
    rw e at (written_after [] xs old)

-- what a function that writes a text from the start answers, and the buffer that it leaves
poured_is : (xs old out : List ℕ) (r : ℕ) → page out r ≡ written (page old 0) xs → (r ≡ min (length xs) (length old)) × (out ≡ poured xs old)
poured_is xs old out r h =
    let e : page out r ≡ page (poured xs old) (min (length xs) (length old)) = h ∙ written_whole xs old in
    (ap (λ (p : Page). p.next) e, ap (λ (p : Page). p.text) e)

-- what a writer leaves that starts at the start of a buffer and puts a text
pub puts_poured : (p q : Writer) (xs old out : List ℕ) → page p.out.now p.at ≡ page old 0 → Puts p xs q → out ≡ q.out.now → (q.at ≡ min (length xs) (length old)) × (out ≡ poured xs old)
puts_poured p q xs old out e h k = poured_is xs old out q.at (rw k (h.adds ∙ ap (λ s. written s xs) e))
