-- How the longer beginning is judged: by rows by its stop, and by columns by its last column.
use Prim.Native.Nat.{ℕ, suc, ◌+◌, ◌-◌, ◌^◌, ◌≤◌}
use native.Mathlib.Omega.{arith}
use mathlib.Core.Path.{◌≡◌, sym, ap, ◌∙◌}
use mathlib.Core.List.{List, [], ◌∷◌, ◌++◌}
use lib.ListN.{length, get_or, take}
use lib.Seq.{get_or-take}
use Rattle.laws.specs.Bit.{bit}
use Rattle.laws.specs.BitLaws.{bit_of_zero}
use Rattle.laws.specs.Compared.{by_same}
use Rattle.beginnings.proofs.Follows.{beginning_of}
use mathlib.Core.Logic.{◌≢◌}
use lib.Dec.{eqb}
use borrow.Author.Tests.{eq-eqb, ne_eqb}
use Rattle.laws.specs.Test.{pick}
use Rattle.beginnings.specs.Beginning.{Beginning}
use Rattle.schemes.specs.Scheme.{Scheme}
use Rattle.schemes.specs.Judging
use Rattle.graph.specs.Counts.{entry_at}
use Rattle.pairs.specs.Columns.{down_column}
use Rattle.plain.specs.Before.{row_before}
use Rattle.plain.proofs.Modes.{by_rows_lem, by_columns_lem}
use Rattle.judging.specs.Judging.{judged}
use Rattle.turns.proofs.LastJudged.{judgement_code, judged_by_rows}
use Rattle.stops.specs.Tried.{tried_by}
use Rattle.stops.proofs.CodeTried.{Judges, tried_judges}
use Rattle.column_walks.specs.Columns.{turn_in_column, tried_down}
use Rattle.column_walks.proofs.ColumnJudged.{judged_by_columns, alone_open, column_code, down_judges}
use Rattle.graph.specs.declared.Graph.{Graph}
use Rattle.words.specs.Placed.{row}
use Rattle.rows.specs.Rows.{block_of}
use Rattle.arrangements.specs.Arrangement.{at}
use Rattle.pairs.specs.Pairs.{Pair, from_row}
use Rattle.pairs.proofs.PairLaws.{from_row_given}
use Rattle.stops.specs.Used.{used_mask}
use Rattle.turns.specs.Turns.{Places, turn_at, walk_code}
use Rattle.turns.proofs.CodeTurns.{walk_alike}
use Rattle.stops.specs.Stops.{one_at, stops_at}
use Rattle.exploring.proofs.Choosing.{long, place_fits_lem, longer_length, longer_follows, longer_used}
use Rattle.exploring.proofs.Trying.{Trying, next_path, same_first, there_before, there_last, next_places}
use Rattle.stops.proofs.StopLaws.{one_small, ByStop, first_stop, no_rows, by_stop}

module _ {mode : ℕ} {g : Graph} {budget : ℕ} {blocks path₀ path untried stops places : List ℕ} {left used depth steps t : ℕ} {next there : List ℕ} (y : Trying mode g budget blocks path₀ path untried stops places left used depth steps t next there) where
  abbrev n : ℕ
  n = g.order

  abbrev block : ℕ → ℕ
  block = block_of g.starts

  abbrev here : List ℕ
  here = take depth path

  -- the beginning that is tried
  abbrev longer : List ℕ
  longer = here ++ (suc t ∷ [])

  abbrev stop : ℕ
  stop = bit (get_or stops depth 0) t

  abbrev one : ℕ
  one = one_at (row g.edges 1) (row g.unknowns 1) used (at next 1) (suc depth)

  abbrev rows : ℕ
  rows = walk_code (turn_at row_before g.edges g.unknowns next there) (from_row 2 (n - 2))

  -- the path has the vertices of the longer beginning
  longer_at : (i : ℕ) → 1 ≤ i → i ≤ suc depth → at longer i ≡ at next i
  longer_at i l h = ap (λ (x : List ℕ). get_or x (i - 1) 0) (sym (next_path y)) ∙ get_or-take (suc depth) next (i - 1) 0 (omega arith)

  longer_places : n ≤ suc depth → Places n longer there
  longer_places h =
      let q = next_places y (omega arith) in
      let same : (i : ℕ) → 1 ≤ i → i ≤ n → at longer i ≡ at next i = λ i l k. longer_at i l (omega arith) in
      record {
        arranged = record {
          within = record { low = λ i l k. rw (same i l k) (q.arranged.within.low i l k); high = λ i l k. rw (same i l k) (q.arranged.within.high i l k) };
          below = λ i l k. rw (same i l k) (q.arranged.below i l k);
          once = λ i j l d k e. q.arranged.once i j l d k (sym (same i (omega arith) k) ∙ e ∙ same j l (omega arith));
        };
        undone = λ i l k. rw (same i l k) (q.undone i l k);
      }

  rows_alike : n ≤ suc depth → walk_code (turn_at row_before g.edges g.unknowns longer there) (from_row 2 (n - 2)) ≡ rows
  unfolding turn_at
  rows_alike h =
      walk_alike (turn_at row_before g.edges g.unknowns longer there) (turn_at row_before g.edges g.unknowns next there) (from_row 2 (n - 2))
      (λ k m. let w = from_row_given 2 (n - 2) k m in rw (longer_at k.row (omega arith) (omega arith), longer_at k.column (omega arith) (omega arith)))

  begins : 1 ≤ depth → Beginning n block here
  begins l = beginning_of n block here (omega (arith, long y.choice)) (omega (arith, long y.choice, y.choice.state.shallow)) y.choice.state.follows

  more_begins : Beginning n block longer
  more_begins = beginning_of n block longer (omega (arith, longer_length y.choice)) (omega (arith, longer_length y.choice, y.choice.state.shallow)) (longer_follows y.choice)

  -- ---- by rows

  judged_by_rows_lem : mode ≢ 2 → (b : List ℕ) → judged mode g b ≡ judged_by_rows g b
  judged_by_rows_lem d b = ap (λ (s : Scheme Pair). Judging.judged s (entry_at g) b) (by_rows_lem mode d n)

  by_its_stop : mode ≢ 2 → ByStop g longer (suc depth) stop one rows
  by_its_stop rows_mode = by_same depth 0 at_first (λ d. later (omega arith))
    where
      at_first : depth ≡ 0 → ByStop g longer (suc depth) stop one rows
      at_first z =
          let none : stop ≡ 0 = rw (z, (y.choice.state.stopping rows_mode).none_first) (bit_of_zero t) in
          let start : here ≡ [] = rw z in
          rw (none, start, z) (first_stop g y.choice.state.formed (suc t) _ _ (λ h. no_rows n (turn_at row_before g.edges g.unknowns next there) h))

      later : 1 ≤ depth → ByStop g longer (suc depth) stop one rows
      later l =
          let first : at here 1 ≡ at next 1 = get_or-take depth path 0 0 l ∙ sym (same_first y l) in
          let low : 1 ≤ at here 1 = (begins l).low 1 (omega arith) (omega (arith, long y.choice)) in
          let place : suc t - 1 ≡ t = omega arith in
          let at_depth : suc depth - 1 ≡ depth = omega arith in
          let held : get_or stops depth 0 ≡ stops_at g.edges g.unknowns (used_mask here) (at here 1) (suc depth) = rw (first, (same_first y) l) (rw at_depth at ((y.choice.state.stopping rows_mode).upto (suc depth) (omega arith) (omega arith))) in
          let by = by_stop g y.choice.state.formed here (suc t) (omega (arith, long y.choice)) y.choice.state.follows (begins l) more_begins (sym (judged_by_rows_lem rows_mode here) ∙ y.choice.state.opened depth l (omega arith)) (omega arith) (omega (arith, place_fits_lem y.choice)) low there (λ c. longer_places (omega (arith, long y.choice))) in
          by_rows (rw (long y.choice, place, sym held, first, sym y.choice.state.in_use) at by)
        where
          by_rows : {st on : ℕ} → ByStop g longer (suc depth) st on (walk_code (turn_at row_before g.edges g.unknowns longer there) (from_row 2 (n - 2))) → ByStop g longer (suc depth) st on rows
          by_rows b =
              record {
                stop_wins = b.stop_wins;
                stop_loses = b.stop_loses;
                short_open = b.short_open;
                full_wins = λ d h e. b.full_wins d h (rows_alike h ∙ e);
                full_fails = λ d h e. b.full_fails d h (λ z. e (sym (rows_alike h) ∙ z));
              }

  -- ---- by columns

  -- what its column comes to
  abbrev down : ℕ
  down = walk_code (turn_in_column g.edges g.unknowns next there (used + 2 ^ t)) (down_column (suc depth) (suc depth - 1))

  judged_by_columns_lem : mode ≡ 2 → (b : List ℕ) → judged mode g b ≡ judged_by_columns g b
  judged_by_columns_lem e b = ap (λ (s : Scheme Pair). Judging.judged s (entry_at g) b) (by_columns_lem mode e n)

  by_its_column : mode ≡ 2 → judgement_code (judged_by_columns g longer) ≡ down
  unfolding judgement_code down_column walk_code
  by_its_column columns_mode = by_same depth 0 at_first (λ d. later (omega arith))
    where
      at_first : depth ≡ 0 → judgement_code (judged_by_columns g longer) ≡ down
      at_first z = let start : here ≡ [] = rw z in rw (start, z) (ap judgement_code (alone_open g (suc t)))

      undone : (i : ℕ) → 1 ≤ i → i ≤ suc depth → at there (at next i) ≡ i
      undone i l h = by_same i (depth + 1) (λ (q : i ≡ depth + 1). rw q (there_last y)) (λ (q : i ≢ depth + 1). there_before y i l (omega arith))

      later : 1 ≤ depth → judgement_code (judged_by_columns g longer) ≡ down
      later l =
          let size : length here ≡ depth = long y.choice in
          let last : suc depth - 1 ≡ depth = omega arith in
          rw (last, longer_used y.choice) (rw size at (column_code g y.choice.state.formed here (suc t) next there (longer_follows y.choice) (omega (arith, size)) (begins l) more_begins
          (sym (judged_by_columns_lem columns_mode here) ∙ y.choice.state.opened depth l (omega arith)) (λ i li h. longer_at i li (omega (arith, size))) (λ i li h. undone i li (omega (arith, size)))))

  -- ---- in either mode

  pub judges_tried : Judges n (judged mode g longer) (suc depth) (pick (eqb mode 2) (tried_down down (suc depth) n) (tried_by stop one rows (suc depth) n))
  unfolding pick
  judges_tried =
      by_same mode 2
      (λ (e : mode ≡ 2). rw (eq-eqb mode 2 e, judged_by_columns_lem e longer) (down_judges n (judged_by_columns g longer) (suc depth) down (by_its_column e)))
      (λ (d : mode ≢ 2). rw (ne_eqb mode 2 d, judged_by_rows_lem d longer) (tried_judges g longer (suc depth) stop one rows (one_small (row g.edges 1) (row g.unknowns 1) used (at next 1) (suc depth)) (by_its_stop d)))
