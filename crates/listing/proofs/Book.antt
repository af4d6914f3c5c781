-- The lines of a book, record after record.
use Prim.Native.Nat.{ℕ, zero, suc, ◌≤◌, ◌<◌}
use native.Mathlib.Omega.{arith}
use mathlib.Core.Path.{◌≡◌, refl, ap, ◌∙◌}
use mathlib.Core.Bool.{Bool, true, false}
use mathlib.Core.List.{List, [], ◌∷◌, ◌++◌, append-nil}
use lib.ListN.{length, length-drop}
use Rattle.std.specs.Prelude.{Result, Ok, Err, is_ok}
use Rattle.laws.specs.Test.{pick}
use Rattle.laws.specs.TestLaws.{pick_true, pick_false}
use Rattle.refusal.specs.declared.Refusal.{Refusal}
use Rattle.refusal.specs.Numbers.{refusal_told, value_told}
use Rattle.refusal.proofs.NumberLaws.{given_told}
use Rattle.graph.specs.declared.Graph.{Graph}
use Rattle.graph.specs.Answers.{no_graph}
use Rattle.graph.specs.WellFormed.{WellFormed}
use Rattle.record.specs.Answers.{read_answer, taken_from, rest_of}
use Rattle.record.proofs.ReadWritten.{read_formed, read_takes}
use Rattle.listing.specs.Listing.{order_of, record_line, lines_up_to, lines_of}

-- ---- a record

-- what follows an accepted record is shorter
pub rest_shorter : (s : List ℕ) → is_ok (read_answer s) ≡ true → 1 ≤ length s → length (rest_of s) < length s
unfolding rest_of
rest_shorter s fine h = rw (length-drop (taken_from s) s) (omega (arith, (read_takes s (given_told (read_answer s) fine)).0))

-- a record that is read gives an order of at most 32
pub order_small : (s : List ℕ) → order_of (read_answer s) ≤ 32
order_small s = go (read_answer s) (read_formed s)
  where
    go : (r : Result Graph Refusal) → (refusal_told r ≡ 0 → WellFormed (value_told no_graph r)) → order_of r ≤ 32
    go (Ok g) formed = (formed refl).order_high
    go (Err e) formed = omega arith

-- ---- how many records are read at most does not matter, where it is as many as there are bytes

-- two lists are picked alike where they are the same if the test holds
same_rest : (t : Bool) (x y : List ℕ) → (t ≡ true → x ≡ y) → pick t x [] ≡ pick t y []
unfolding pick
same_rest true x y h = h refl
same_rest false x y h = refl

-- so of any two such limits
lines_same : (k m number : ℕ) (s : List ℕ) → length s ≤ k → length s ≤ m → lines_up_to k number s ≡ lines_up_to m number s
unfolding lines_up_to
lines_same zero zero number s h l = refl
lines_same zero (suc m) number [] h l = refl
lines_same zero (suc m) number (b ∷ s) h l = absurd (omega arith)
lines_same (suc k) zero number [] h l = refl
lines_same (suc k) zero number (b ∷ s) h l = absurd (omega arith)
lines_same (suc k) (suc m) number [] h l = refl
lines_same (suc k) (suc m) number (b ∷ s) h l =
    ap {B = List ℕ} (λ r. record_line number (b ∷ s) ++ r)
    (same_rest (is_ok (read_answer (b ∷ s))) (lines_up_to k (suc number) (rest_of (b ∷ s))) (lines_up_to m (suc number) (rest_of (b ∷ s)))
    (λ fine.
    let less : length (rest_of (b ∷ s)) < length (b ∷ s) = rest_shorter (b ∷ s) fine (omega arith) in
    lines_same k m (suc number) (rest_of (b ∷ s)) (omega arith) (omega arith)))

-- the line of the first record, and the lines of what follows it
lines_next : (number : ℕ) (s : List ℕ) → 1 ≤ length s → lines_of number s ≡ record_line number s ++ pick (is_ok (read_answer s)) (lines_of (suc number) (rest_of s)) []
unfolding lines_of lines_up_to
lines_next number [] h = absurd (omega arith)
lines_next number (b ∷ s) h =
    ap {B = List ℕ} (λ r. record_line number (b ∷ s) ++ r)
    (same_rest (is_ok (read_answer (b ∷ s))) (lines_up_to (length s) (suc number) (rest_of (b ∷ s))) (lines_of (suc number) (rest_of (b ∷ s)))
    (λ fine.
    let less : length (rest_of (b ∷ s)) < length (b ∷ s) = rest_shorter (b ∷ s) fine (omega arith) in
    lines_same (length s) (length (rest_of (b ∷ s))) (suc number) (rest_of (b ∷ s)) (omega arith) (omega arith)))

-- an accepted record is followed by the lines of what follows it
pub lines_go_on : (number : ℕ) (s : List ℕ) → 1 ≤ length s → is_ok (read_answer s) ≡ true → lines_of number s ≡ record_line number s ++ lines_of (suc number) (rest_of s)
lines_go_on number s h fine =
    lines_next number s h
    ∙ ap {B = List ℕ} (λ r. record_line number s ++ r) (pick_true (is_ok (read_answer s)) (lines_of (suc number) (rest_of s)) [] fine)

-- a refused one is the last
pub lines_end : (number : ℕ) (s : List ℕ) → 1 ≤ length s → is_ok (read_answer s) ≡ false → lines_of number s ≡ record_line number s
lines_end number s h refused =
    lines_next number s h
    ∙ ap {B = List ℕ} (λ r. record_line number s ++ r) (pick_false (is_ok (read_answer s)) (lines_of (suc number) (rest_of s)) [] refused)
    ∙ append-nil (record_line number s)
