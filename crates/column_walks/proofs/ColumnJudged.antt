-- How a beginning is judged by columns by the pairs of its last column, as the code reads them.
use Prim.Native.Nat.{ℕ, suc, ◌-◌, ◌≤◌, ◌<◌}
use native.Mathlib.Omega.{arith}
use mathlib.Core.Path.{◌≡◌, refl, sym, ap, ◌∙◌}
use mathlib.Core.Logic.{◌≢◌, ◌⊎◌, inl, inr}
use mathlib.Core.Bool.{true, false}
use mathlib.Core.List.{List, [], ◌∷◌, ◌++◌, Memᴰ}
use lib.Dec.{eqb, ltb}
use lib.ListN.{length, get_or}
use borrow.Author.Tests.{eq-eqb, ne_eqb, lt-ltb, le-ltb}
use Rattle.laws.specs.Test.{pick}
use Rattle.laws.specs.TestLaws.{holds_or_fails}
use Rattle.laws.specs.Bit.{bit}
use Rattle.laws.specs.BitLaws.{bit_small}
use Rattle.laws.specs.Compared.{by_same, by_below}
use Rattle.walk.specs.Walk.{walk}
use Rattle.beginnings.specs.Beginning.{Beginning, absent}
use Rattle.beginnings.specs.Search.{Judgement}
use Rattle.beginnings.specs.Search
use Rattle.beginnings.proofs.Children.{absent_true, absent_false}
use Rattle.beginnings.proofs.Follows.{Follows, length_more, index_of, mem_at}
use Rattle.schemes.specs.Judging.{judgement_of, judging}
use Rattle.schemes.specs.Judging
use Rattle.schemes.specs.Free.{place_of, source}
use Rattle.schemes.proofs.Inverse.{place_high, place_holds}
use Rattle.schemes.proofs.Judgements.{of_open}
use Rattle.schemes.proofs.Free.{free_next}
use Rattle.graph.specs.declared.Graph.{Graph}
use Rattle.rows.specs.Rows.{block_of}
use Rattle.graph.specs.WellFormed.{WellFormed}
use Rattle.graph.specs.Counts.{entry_at}
use Rattle.words.specs.Placed.{row}
use Rattle.arrangements.specs.Arrangement.{at}
use Rattle.pairs.specs.Pairs.{Pair}
use Rattle.pairs.specs.Columns.{down_column, columns}
use Rattle.pairs.proofs.ColumnLaws.{down_given}
use Rattle.plain.specs.Plain.{image, by_columns}
use Rattle.plain.specs.Before.{column_before}
use Rattle.plain.proofs.RowOne.{place_of_at}
use Rattle.plain.proofs.Columns.{columns_lawful, columns_ordered, column_itself, columns_more}
use Rattle.turns.specs.Turns.{turn_of, walk_code}
use Rattle.turns.proofs.TurnCodes.{code_of, turn_code}
use Rattle.turns.proofs.Walks.{outcome_code, move_of, free_code}
use Rattle.turns.proofs.LastJudged.{judgement_code, judgement_outcome, code_won, code_open, code_lost, code_not_won}
use Rattle.stops.specs.Used.{used_mask}
use Rattle.stops.proofs.UsedLaws.{used_bit}
use Rattle.stops.proofs.CodeTried.{Judges}
use Rattle.column_walks.specs.Columns.{place_held, turn_down, turn_in_column, tried_down}

-- how a beginning is judged by columns
abbrev pub judged_by_columns : Graph → List ℕ → Judgement
judged_by_columns g = Judging.judged (by_columns g.order) (entry_at g)

-- ---- one pair

module _ (g : Graph) (w : WellFormed g) (i j : ℕ) where
  small_edge : (x y : ℕ) → bit (row g.edges x) (y - 1) < 2
  small_edge x y = bit_small (row g.edges x) (y - 1)

  small_doubt : (x y : ℕ) → bit (row g.unknowns x) (y - 1) < 2
  small_doubt x y = bit_small (row g.unknowns x) (y - 1)

  -- what row i has at j, row j has at i
  edge_flips : bit (row g.edges i) (j - 1) ≡ bit (row g.edges j) (i - 1)
  edge_flips = omega (arith, w.symmetric i j, small_edge i j, small_edge j i, small_doubt i j, small_doubt j i)

  doubt_flips : bit (row g.unknowns i) (j - 1) ≡ bit (row g.unknowns j) (i - 1)
  doubt_flips = omega (arith, w.symmetric i j, small_edge i j, small_edge j i, small_doubt i j, small_doubt j i)

-- so a turn by the rows of i and u is the turn by the rows of k and v
turn_flips : (g : Graph) → WellFormed g → (i k u v s t : ℕ)
    → turn_of column_before (row g.edges i) (row g.unknowns i) (row g.edges u) (row g.unknowns u) i k u v s t
    ≡ turn_down (row g.edges k) (row g.unknowns k) (row g.edges v) (row g.unknowns v) i k u v s t
unfolding turn_of turn_down
turn_flips g w i k u v s t = rw (edge_flips g w i k, doubt_flips g w i k, edge_flips g w u v, doubt_flips g w u v)

-- ---- the place of a vertex

module _ (n : ℕ) (block : ℕ → ℕ) (b : List ℕ) (begins : Beginning n block b) (follows : Follows n block [] b) (q : List ℕ) (undone : (i : ℕ) → 1 ≤ i → i ≤ length b → at q (at b i) ≡ i) where
  -- as the code reads it
  place_read : (u : ℕ) → 1 ≤ u → place_of (at b) (length b) u ≡ place_held (used_mask b) q u
  unfolding place_held pick
  place_read u low = at_test (holds_or_fails (absent b u))
    where
      at_test : (absent b u ≡ true) ⊎ (absent b u ≡ false) → place_of (at b) (length b) u ≡ pick (eqb (bit (used_mask b) (u - 1)) 1) (at q u) 0
      at_test (inl gone) =
          rw (used_bit n block b follows u low, gone)
          (by_below 0 (place_of (at b) (length b) u)
          (λ (some : 0 < place_of (at b) (length b) u).
          absurd (absent_true b u gone (rw (← place_holds (at b) (length b) u some) (mem_at b (place_of (at b) (length b) u - 1) (omega (arith, place_high (at b) (length b) u))))))
          (λ (none : place_of (at b) (length b) u ≤ 0). omega arith))
      at_test (inr there) =
          let i = index_of (absent_false b u there) in
          let place : suc i.0 - 1 ≡ i.0 = omega arith in
          let here : at b (suc i.0) ≡ u = ap (λ (x : ℕ). get_or b x 0) place ∙ i.2 in
          let is : place_of (at b) (length b) u ≡ suc i.0 = ap (place_of (at b) (length b)) (sym here) ∙ place_of_at n block b begins (suc i.0) (omega arith) (omega (arith, i.1)) in
          rw (used_bit n block b follows u low, there) (is ∙ sym (ap (at q) (sym here) ∙ undone (suc i.0) (omega arith) (omega (arith, i.1))))

-- ---- one vertex more

-- alone it is open: it has no pair
pub alone_open : (g : Graph) (v : ℕ) → judged_by_columns g (v ∷ []) ≡ Search.«open»
unfolding Judging.judged judging judgement_of walk columns down_column
alone_open g v = refl

-- p holds b and then v at its first places, and q has their places
module _ (g : Graph) (formed : WellFormed g) (b : List ℕ) (v : ℕ) (p q : List ℕ) (follows : Follows g.order (block_of g.starts) [] (b ++ v ∷ [])) (begun : 1 ≤ length b)
    (begins : Beginning g.order (block_of g.starts) b) (more : Beginning g.order (block_of g.starts) (b ++ v ∷ []))
    (so_far : judged_by_columns g b ≡ Search.«open») (holds : (i : ℕ) → 1 ≤ i → i ≤ suc (length b) → at (b ++ v ∷ []) i ≡ at p i) (undone : (i : ℕ) → 1 ≤ i → i ≤ suc (length b) → at q (at p i) ≡ i) where
  abbrev n : ℕ
  n = g.order

  abbrev k : ℕ
  k = suc (length b)

  abbrev longer : List ℕ
  longer = b ++ v ∷ []

  turn : Pair → ℕ
  turn = turn_in_column g.edges g.unknowns p q (used_mask (b ++ v ∷ []))

  placed : (u : ℕ) → 1 ≤ u → place_of (at longer) (length longer) u ≡ place_held (used_mask longer) q u
  placed = place_read n (block_of g.starts) longer more follows q (λ i l h. let f : i ≤ k = omega (arith, length_more b v) in ap (at q) (holds i l f) ∙ undone i l f)

  coded : (j : Pair) → Memᴰ j (down_column k (length b)) → code_of (move_of column_before (entry_at g) (image longer) (source (by_columns n) longer) j) ≡ turn j
  unfolding turn turn_in_column
  coded j m =
      let d = down_given k (length b) j m in
      let c : j.column ≡ suc (length b) = d.same_column in
      turn_code column_before column_itself g formed j.row j.column (at longer j.row) (at longer j.column) (place_of (at longer) (length longer) j.row) (place_of (at longer) (length longer) j.column)
      ∙ turn_flips g formed j.row j.column (at longer j.row) (at longer j.column) (place_of (at longer) (length longer) j.row) (place_of (at longer) (length longer) j.column)
      ∙ rw (holds j.row d.low (omega (arith, d.high)), holds j.column (omega arith) (omega arith), placed j.row d.low, placed j.column (omega arith))

  pub column_code : judgement_code (judged_by_columns g (b ++ v ∷ [])) ≡ walk_code (turn_in_column g.edges g.unknowns p q (used_mask (b ++ v ∷ []))) (down_column (suc (length b)) (length b))
  unfolding Judging.judged turn
  column_code =
      judgement_outcome (judging (by_columns n) (entry_at g) longer)
      ∙ ap outcome_code (free_next (columns_lawful n) (columns_ordered n) (block_of g.starts) (entry_at g) b v (down_column k (length b)) begins more (ap columns (length_more b v) ∙ columns_more (length b)) (of_open (judging (by_columns n) (entry_at g) b) so_far))
      ∙ free_code column_before (entry_at g) (image longer) (source (by_columns n) longer) turn (down_column k (length b)) coded

-- ---- and by the code

-- the judgement of a beginning of length k whose last column comes to `down`
pub down_judges : (n : ℕ) (j : Judgement) (k down : ℕ) → judgement_code j ≡ down → Judges n j k (tried_down down k n)
unfolding tried_down pick
down_judges n j k down e = by_same down 0 ended_not ended
  where
    ended : down ≢ 0 → Judges n j k (pick (eqb down 0) (pick (ltb k n) 0 1) down)
    ended d = rw (ne_eqb down 0 d) record { wins = λ z. code_won j (e ∙ z); goes_on = λ z. absurd (d z); stays = λ x y. inl (code_lost j (λ z. x (sym e ∙ z)) (λ z. y (sym e ∙ z))) }

    ended_not : down ≡ 0 → Judges n j k (pick (eqb down 0) (pick (ltb k n) 0 1) down)
    ended_not z =
        rw (eq-eqb down 0 z)
        (by_below k n
        (λ (l : k < n). rw (lt-ltb k n l) record { wins = λ x. absurd (omega arith); goes_on = λ x. (code_open j (e ∙ z), l); stays = λ x y. absurd (y refl) })
        (λ (l : n ≤ k). rw (le-ltb k n l) record { wins = λ x. absurd (omega arith); goes_on = λ x. absurd (omega arith); stays = λ x y. inr (l, code_not_won j (λ c. omega (arith, e, c))) }))
