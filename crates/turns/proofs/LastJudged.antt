-- How a beginning is judged by the pairs that come with its last vertex.
use Prim.Native.Nat.{ℕ, suc, ◌-◌, ◌≤◌, ◌<◌}
use native.Mathlib.Omega.{arith}
use mathlib.Core.Path.{◌≡◌, refl, sym, ap, ap₂, ◌∙◌}
use mathlib.Core.Logic.{◌≢◌}
use mathlib.Core.List.{List, [], ◌∷◌, ◌++◌}
use lib.Dec.{eqb}
use lib.ListN.{length, get_or-append}
use lib.Seq.{get_or_at}
use Rattle.laws.specs.Test.{pick}
use Rattle.laws.specs.Compared.{by_below}
use Rattle.walk.specs.Walk.{Outcome, won, lost, still_open, walk}
use Rattle.walk.specs.Free.{free}
use Rattle.beginnings.specs.Beginning.{Beginning}
use Rattle.beginnings.specs.Search.{Judgement}
use Rattle.beginnings.specs.Search
use Rattle.beginnings.proofs.Follows.{length_more}
use Rattle.schemes.specs.Judging.{judgement_of, judging}
use Rattle.schemes.specs.Judging
use Rattle.schemes.specs.Free.{place_of, source, freely}
use Rattle.schemes.proofs.Inverse.{inverse_at}
use Rattle.schemes.proofs.Judgements.{of_open}
use Rattle.schemes.proofs.Free.{free_next}
use Rattle.plain.specs.Plain.{image, judged_on, by_rows}
use Rattle.plain.specs.Before.{row_before}
use Rattle.plain.proofs.Plain.{rows_lawful, judged_on_short, judged_on_whole}
use Rattle.plain.proofs.Before.{row_itself, rows_ordered, judged_on_more, judged_on_last}
use Rattle.graph.specs.declared.Graph.{Graph}
use Rattle.rows.specs.Rows.{block_of}
use Rattle.graph.specs.WellFormed.{WellFormed}
use Rattle.words.specs.Placed.{row}
use Rattle.arrangements.specs.Arrangement.{at}
use Rattle.pairs.specs.Pairs.{Pair, pair, along_row, from_row, pairs}
use Rattle.graph.specs.Counts.{entry_at}
use Rattle.pairs.proofs.PairLaws.{from_row_given}
use Rattle.turns.specs.Turns.{turn_of, turn_at, walk_code, Places}
use Rattle.turns.proofs.TurnCodes.{code_of, turn_code}
use Rattle.turns.proofs.Walks.{outcome_code, ending_code, move_of, free_code, r, places_inverse}

-- ---- a judgement by number

unfoldable pub judgement_code : Judgement → ℕ
judgement_code Search.«open» = 0
judgement_code Search.lost = 1
judgement_code Search.won = 2

-- and back
pub code_won : (j : Judgement) → judgement_code j ≡ 2 → j ≡ Search.won
unfolding judgement_code
code_won Search.won e = refl
code_won Search.lost e = absurd (omega arith)
code_won Search.«open» e = absurd (omega arith)

pub code_open : (j : Judgement) → judgement_code j ≡ 0 → j ≡ Search.«open»
unfolding judgement_code
code_open Search.won e = absurd (omega arith)
code_open Search.lost e = absurd (omega arith)
code_open Search.«open» e = refl

pub code_lost : (j : Judgement) → judgement_code j ≢ 2 → judgement_code j ≢ 0 → j ≡ Search.lost
unfolding judgement_code
code_lost Search.won a b = absurd (a refl)
code_lost Search.lost a b = refl
code_lost Search.«open» a b = absurd (b refl)

pub code_not_won : (j : Judgement) → judgement_code j ≢ 2 → j ≢ Search.won
unfolding judgement_code
code_not_won j a e = a (rw e)

pub judgement_outcome : (o : Outcome Pair) → judgement_code (judgement_of o) ≡ outcome_code o
unfolding judgement_code outcome_code judgement_of
judgement_outcome (won k) = refl
judgement_outcome lost = refl
judgement_outcome still_open = refl

-- ---- by rows

-- how a beginning is judged by rows
abbrev pub judged_by_rows : Graph → List ℕ → Judgement
judged_by_rows g = Judging.judged (by_rows g.order) (entry_at g)

-- alone it is open: it has no pair
pub one_open : (g : Graph) (v : ℕ) → 1 ≤ g.order → judged_by_rows g (v ∷ []) ≡ Search.«open»
unfolding Judging.judged judging judgement_of walk along_row pairs from_row
one_open g v low = rw (none g.order low)
  where
    none : (n : ℕ) → 1 ≤ n → judged_on n 1 ≡ []
    none n low = by_below 1 n (λ (h : 1 < n). judged_on_short n 1 h) (λ (h : n ≤ 1). let e : n ≡ 1 = omega arith in rw e (judged_on_whole 1))

-- ---- one vertex more

module _ (g : Graph) (formed : WellFormed g) (b : List ℕ) (v : ℕ) (begun : 1 ≤ length b) (begins : Beginning g.order (block_of g.starts) b) (more : Beginning g.order (block_of g.starts) (b ++ v ∷ []))
    (so_far : judged_by_rows g b ≡ Search.«open») where
  abbrev n : ℕ
  n = g.order

  abbrev longer : List ℕ
  longer = b ++ v ∷ []

  -- the place in it of a vertex, 0 for one that it lacks
  abbrev pub place_in : ℕ → ℕ
  place_in u = place_of (at (b ++ v ∷ [])) (length (b ++ v ∷ [])) u

  -- what the pair (1, k) does that comes with v
  abbrev pub here_turn : ℕ
  here_turn =
      turn_of row_before (row g.edges 1) (row g.unknowns 1) (row g.edges (at b 1)) (row g.unknowns (at b 1)) 1 (suc (length b)) (at b 1) v (place_in 1) (place_in (suc (length b)))

  first_is : at (b ++ v ∷ []) 1 ≡ at b 1
  first_is = get_or-append b (v ∷ []) 0 0 begun

  last_is : at (b ++ v ∷ []) (suc (length b)) ≡ v
  last_is = let place : suc (length b) - 1 ≡ length b = omega arith in rw place (get_or_at b v [] 0 (length b) refl)

  here_code : code_of (move_of row_before (entry_at g) (image (b ++ v ∷ [])) (source (by_rows g.order) (b ++ v ∷ [])) (pair 1 (suc (length b)))) ≡ here_turn
  here_code =
      turn_code row_before row_itself g formed 1 (suc (length b)) (at longer 1) (at longer (suc (length b))) (place_in 1) (place_in (suc (length b)))
      ∙ ap₂ (λ (x y : ℕ). turn_of row_before (row g.edges 1) (row g.unknowns 1) (row g.edges x) (row g.unknowns x) 1 (suc (length b)) x y (place_in 1) (place_in (suc (length b)))) first_is last_is

  -- the pair (1, k), and then the pairs that come after it
  by_next : (rest : List Pair) → judged_on g.order (suc (length b)) ≡ judged_on g.order (length b) ++ (pair 1 (suc (length b)) ∷ rest) → (r : ℕ)
      → outcome_code (freely (by_rows g.order) row_before (entry_at g) (b ++ v ∷ []) rest) ≡ r → judgement_code (judged_by_rows g (b ++ v ∷ [])) ≡ pick (eqb here_turn 0) r here_turn
  unfolding Judging.judged free
  by_next rest e r c =
      judgement_outcome (judging (by_rows n) (entry_at g) longer)
      ∙ ap outcome_code (free_next (rows_lawful n) (rows_ordered n) (block_of g.starts) (entry_at g) b v (pair 1 (suc (length b)) ∷ rest) begins more (ap (judged_on n) (length_more b v) ∙ e) (of_open (judging (by_rows n) (entry_at g) b) so_far))
      ∙ ending_code (move_of row_before (entry_at g) (image longer) (source (by_rows n) longer) (pair 1 (suc (length b)))) (pair 1 (suc (length b))) (freely (by_rows n) row_before (entry_at g) longer rest)
      ∙ ap₂ (λ (c x : ℕ). pick (eqb c 0) x c) here_code c

  -- where places are left that pair decides alone
  pub short_code : suc (length b) < g.order → judgement_code (judged_by_rows g (b ++ v ∷ [])) ≡ pick (eqb here_turn 0) 0 here_turn
  unfolding outcome_code free
  short_code h = by_next [] (judged_on_more n (length b) begun h) 0 refl

  -- else the rows after the first come after it, where q has the places of its vertices
  pub full_code : suc (length b) ≡ g.order → (q : List ℕ) → Places g.order (b ++ v ∷ []) q
      → judgement_code (judged_by_rows g (b ++ v ∷ [])) ≡ pick (eqb here_turn 0) (walk_code (turn_at row_before g.edges g.unknowns (b ++ v ∷ []) q) (from_row 2 (g.order - 2))) here_turn
  unfolding turn_at
  full_code h q places =
      by_next (from_row 2 (n - 2)) (judged_on_last n (length b) begun h) (walk_code (turn_at row_before g.edges g.unknowns longer q) (from_row 2 (n - 2)))
      (free_code row_before (entry_at g) (image longer) (source (by_rows n) longer) (turn_at row_before g.edges g.unknowns longer q) (from_row 2 (n - 2))
      (λ k m.
      let w = from_row_given 2 (n - 2) k m in
      turn_code row_before row_itself g formed k.row k.column (at longer k.row) (at longer k.column) (place_in k.row) (place_in k.column)
      ∙ ap₂ (λ (s t : ℕ). turn_of row_before (row g.edges k.row) (row g.unknowns k.row) (row g.edges (at longer k.row)) (row g.unknowns (at longer k.row)) k.row k.column (at longer k.row) (at longer k.column) s t)
      (placed k.row (omega arith) (omega arith)) (placed k.column (omega arith) (omega arith))))
    where
      placed : (u : ℕ) → 1 ≤ u → u ≤ g.order → place_in u ≡ at q u
      placed u l k =
          ap (λ (m : ℕ). place_of (at (b ++ v ∷ [])) m u) (length_more b v ∙ h)
          ∙ sym (inverse_at g.order (b ++ v ∷ []) (r g formed (b ++ v ∷ []) q places) u l k) ∙ places_inverse g formed (b ++ v ∷ []) q places u l k
