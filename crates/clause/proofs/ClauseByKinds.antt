-- The pass over the pairs writes the clause: the kind of a pair tells whether the pair, or "not" the pair, is a literal that is kept.
use Prim.Native.Nat.{ℕ, suc, ◌+◌, ◌<◌}
use native.Mathlib.Omega.{arith}
use mathlib.Core.Path.{◌≡◌, refl, sym, ap, ◌∙◌}
use mathlib.Core.Logic.{◌⊎◌, inl, inr}
use mathlib.Core.Bool.{Bool, true, false, true≢false}
use mathlib.Core.List.Memᴰ
use mathlib.Core.List.{List, [], ◌∷◌, ◌++◌, append_assoc, Memᴰ}
use lib.IntN.{ℤ}
use lib.ListN.{length, drop}
use lib.Dec.{eqb}
use borrow.Author.Tests.{eqb-true, eq-eqb}
use Rattle.laws.specs.Each.{Each, each_rest}
use Rattle.laws.specs.ListLaws.{mem_split}
use Rattle.laws.specs.TestLaws.{same_test}
use Rattle.walk.specs.Clause.{Literal, absent, present, among, numbered, clause_after, clause}
use Rattle.walk.specs.Meeting.{literals_of}
use Rattle.walk.proofs.Clause.{among_listed}
use Rattle.walk.proofs.Literals.{literals_in_words}
use Rattle.needed.specs.Settled.{NumberedBy, staying}
use Rattle.needed.proofs.Pass.{needed_stays}
use Rattle.schemes.specs.Judging.{needed_by, written_by}
use Rattle.plain.specs.Plain.{same_pair, image, compared_in}
use Rattle.plain.specs.Before.{row_before, before_in}
use Rattle.plain.proofs.Plain.{same_pair_tells}
use Rattle.plain.proofs.Before.{rows_ordered, row_told}
use Rattle.plain.proofs.Modes.{mode_numbered, numbered_compared}
use Rattle.graph.specs.declared.Graph.{Graph}
use Rattle.graph.specs.Graph.{graph_of}
use Rattle.graph.specs.Counts.{entry_at}
use Rattle.pairs.specs.Pairs.{Pair, pair, pairs}
use Rattle.pairs.proofs.PairLaws.{pairs_no_repeats}
use Rattle.judging.specs.Judging.{needed_of, clause_of}
use Rattle.kinds.specs.Kinds.{kind_at}
use Rattle.dropped.specs.Dropping.{WinsAt, GoneAt, image_goes, pair_goes}
use Rattle.dropped.proofs.KindsStay.{kind_edge, kind_gap}
use Rattle.dropped.proofs.Winning.{won_walk}
use Rattle.clause.specs.Clauses.{written_for, written_along, Wrote}

-- the literals of a drawing are told by its entries
module _ (y : Pair → ℕ) (ks : List Pair) (k : Pair) (m : Memᴰ k ks) where
  absent_told : among same_pair (absent k) (literals_of y ks) ≡ eqb (y k) 1
  absent_told =
      same_test (among same_pair (absent k) (literals_of y ks)) (eqb (y k) 1)
      (λ e. eq-eqb (y k) 1 ((literals_in_words y ks (absent k)).0 ((among_listed same_pair_tells (absent k) (literals_of y ks)).0 e)).1)
      (λ e. (among_listed same_pair_tells (absent k) (literals_of y ks)).1 ((literals_in_words y ks (absent k)).1 (m, eqb-true (y k) 1 e)))

  present_told : among same_pair (present k) (literals_of y ks) ≡ eqb (y k) 0
  present_told =
      same_test (among same_pair (present k) (literals_of y ks)) (eqb (y k) 0)
      (λ e. eq-eqb (y k) 0 ((literals_in_words y ks (present k)).0 ((among_listed same_pair_tells (present k) (literals_of y ks)).0 e)).1)
      (λ e. (among_listed same_pair_tells (present k) (literals_of y ks)).1 ((literals_in_words y ks (present k)).1 (m, eqb-true (y k) 0 e)))

-- a number is written in front of the rest
numbered_front : (a p : Bool) (m : ℕ) (rest : List ℤ) → numbered a p m [] ++ rest ≡ numbered a p m rest
unfolding numbered
numbered_front true p m rest = refl
numbered_front false true m rest = refl
numbered_front false false m rest = refl

-- where kinds tell the literals, what they write is the clause
along_clause : (t : Pair → ℕ) (lits : List (Literal Pair)) (i : ℕ) (ks : List Pair)
    → Each (λ j. (among same_pair (absent j) lits ≡ eqb (t j) 1) × (among same_pair (present j) lits ≡ eqb (t j) 2)) ks
    → written_along t i ks ≡ clause_after same_pair lits i ks
unfolding written_along written_for clause_after
along_clause t lits i [] h = refl
along_clause t lits i (j ∷ ks) h =
    let here = h j (Memᴰ.head refl) in
    rw (here.0, here.1, along_clause t lits (suc i) ks (each_rest (λ j. (among same_pair (absent j) lits ≡ eqb (t j) 1) × (among same_pair (present j) lits ≡ eqb (t j) 2)) h))
    (numbered_front (eqb (t j) 1) (eqb (t j) 2) (suc i) (clause_after same_pair lits (suc i) ks))

-- ---- the numbers of two pairs

row_never : (j k : Pair) → row_before j k ≡ true → ¬ (row_before k j ≡ true)
row_never j k s t = at (row_told j k s) (row_told k j t)
  where
    at : (j.row < k.row) ⊎ ((j.row ≡ k.row) × (j.column < k.column)) → (k.row < j.row) ⊎ ((k.row ≡ j.row) × (k.column < j.column)) → ⊥
    at (inl a) (inl b) = omega arith
    at (inl a) (inr b) = omega (arith, b.0)
    at (inr a) (inl b) = omega (arith, a.0)
    at (inr a) (inr b) = omega (arith, a.1, b.1)

-- a pair that comes after k by its number comes after it in row order
numbered_after : (n : ℕ) (j k : Pair) (us ys : List Pair) → pairs n ≡ us ++ k ∷ ys → Memᴰ j ys → row_before k j ≡ true
numbered_after n j k us ys split m =
    let s = mem_split j ys m in
    let whole : pairs n ≡ (us ++ k ∷ s.0) ++ j ∷ s.1 = split ∙ ap (λ (l : List Pair). us ++ k ∷ l) s.2 ∙ sym (append_assoc us (k ∷ s.0) (j ∷ s.1)) in
    ((rows_ordered n).precedes (us ++ k ∷ s.0) j s.1 whole k (rw split (Memᴰ.append_right us (Memᴰ.head refl)))).1 (Memᴰ.append_right us (Memᴰ.head refl))

-- the row numbers tell which of w and its image has the higher one
by_rows : (mode n : ℕ) (p : List ℕ) (w : Pair) → NumberedBy (image p) (compared_in mode n) w (row_before w (image p w)) (pairs n)
by_rows mode n p w =
    record {
      all = mode_numbered mode n;
      inside = numbered_compared mode n;
      once = pairs_no_repeats n;
      image_higher = λ e us ys split m. row_never (image p w) w (numbered_after n w (image p w) us ys split m) e;
      pair_higher = λ e us ys split m. true≢false (sym (numbered_after n (image p w) w us ys split m) ∙ e);
    }

-- ---- the clause

module _ {mode : ℕ} {g : Graph} {p q : List ℕ} {w : Pair} (won_at : WinsAt mode g p q w) where
  -- the drawing of the entries that stay
  abbrev kept : Pair → ℕ
  kept = staying (before_in mode) (image q) (entry_at g) w (pair_goes mode g p q w) (image_goes mode g p q w)

  -- the literals that are kept are its literals
  kept_literals : needed_of mode g p ≡ literals_of kept (pairs g.order)
  unfolding needed_by
  kept_literals = needed_stays (won_walk won_at) (by_rows mode g.order p w)

  abbrev kinds : Pair → ℕ
  kinds = kind_at (before_in mode) g.edges g.unknowns q w (pair_goes mode g p q w) (image_goes mode g p q w)

  -- so the pass writes the clause
  kinds_clause : written_along kinds 0 (pairs g.order) ≡ clause_of mode g p
  unfolding written_by clause
  kinds_clause =
      along_clause kinds (needed_of mode g p) 0 (pairs g.order)
      (λ k m.
      rw kept_literals (
        absent_told kept (pairs g.order) k m ∙ sym (kind_edge (before_in mode) g q w (pair_goes mode g p q w) (image_goes mode g p q w) k),
        present_told kept (pairs g.order) k m ∙ sym (kind_gap (before_in mode) g q w (pair_goes mode g p q w) (image_goes mode g p q w) k),
      ))

-- ---- as the code meets it

module _ {mode n starts : ℕ} {e u p q : List ℕ} {row column : ℕ} (won_at : WinsAt mode (graph_of n e u starts) p q (pair row column)) {x y : Bool}
    (gone : GoneAt mode (graph_of n e u starts) p q (pair row column) x y) {old new : List ℤ} {r : ℕ}
    (done : Wrote (written_along (kind_at (before_in mode) e u q (pair row column) x y) 0 (pairs n)) old 0 new r) where
  whole : written_along (kind_at (before_in mode) e u q (pair row column) x y) 0 (pairs n) ≡ clause_of mode (graph_of n e u starts) p
  whole = rw (gone.pair_told, gone.image_told) (kinds_clause won_at)

  pub clause_counted : r ≡ length (clause_of mode (graph_of n e u starts) p)
  clause_counted = omega (arith, done.counted, ap length whole)

  pub clause_written : new ≡ clause_of mode (graph_of n e u starts) p ++ drop (length (clause_of mode (graph_of n e u starts) p)) old
  clause_written =
      let z : 0 + length (clause_of mode (graph_of n e u starts) p) ≡ length (clause_of mode (graph_of n e u starts) p) = omega arith in
      rw (whole, z) at done.written
