-- What holds at the next turn of the search, by how the longer beginning is judged.
use Prim.Native.Nat.{ℕ, suc, ◌+◌, ◌-◌, ◌^◌, ◌≤◌, ◌<◌}
use native.Mathlib.Nat.{eq-or-lt_of_le}
use native.Mathlib.Omega.{arith}
use mathlib.Core.Path.{◌≡◌, sym, ap, ap₂, subst, ◌∙◌}
use mathlib.Core.Logic.{◌≢◌, ⊎_elim}
use mathlib.Core.List.{List, [], ◌∷◌, ◌++◌, Memᴰ}
use lib.Bits.{bit_and}
use lib.ListN.{length, get_or, set, take, length-set}
use lib.Seq.{get_or-set_same, get_or-set_other}
use Rattle.laws.specs.Compared.{by_same}
use Rattle.laws.specs.Masks.{members}
use Rattle.beginnings.specs.Beginning.{children}
use Rattle.beginnings.specs.Search.{first, try_all}
use Rattle.beginnings.specs.Search
use Rattle.beginnings.specs.Remaining.{remaining}
use Rattle.beginnings.proofs.Children.{child_of_mem}
use Rattle.beginnings.proofs.Loop.{loop_won, loop_lost, loop_full, loop_deeper}
use Rattle.graph.specs.declared.Graph.{Graph}
use Rattle.rows.specs.Rows.{block_of}
use Rattle.arrangements.specs.Arrangement.{at}
use Rattle.judging.specs.Judging.{judged, found}
use Rattle.stops.specs.Used.{used_mask}
use Rattle.exploring.specs.Masks.{block_mask}
use Rattle.stops.specs.Stops.{Stopping, Stopped}
use Rattle.stops.proofs.StoppingLaws.{stopping_kept, stopping_more}
use Rattle.exploring.proofs.MaskLaws.{mask_children, mask_fits}
use Rattle.exploring.proofs.Searching.{Searching, untried_above, above_more, above_stored, block_at}
use Rattle.exploring.proofs.Choosing.{long, high, what_is_left, rest_untaken, rest_small, longer_length, longer_follows, longer_used}
use Rattle.exploring.proofs.Trying.{Trying, next_path, before, next_long, next_kept, same_first, there_long, there_before, there_last}

module _ {mode : ℕ} {g : Graph} {budget : ℕ} {blocks path₀ path untried stops places : List ℕ} {left used depth steps t : ℕ} {next there : List ℕ} (y : Trying mode g budget blocks path₀ path untried stops places left used depth steps t next there) where
  abbrev n : ℕ
  n = g.order

  abbrev block : ℕ → ℕ
  block = block_of g.starts

  abbrev here : List ℕ
  here = take depth path

  -- the beginning that is tried
  abbrev longer : List ℕ
  longer = here ++ (suc t ∷ [])

  abbrev trying : List ℕ → List (List ℕ) → ℕ → Search.Found
  trying b u c = try_all (judged mode g) (remaining n block (judged mode g) b u) c budget

  module _ (unspent : steps ≢ budget) where
    more : steps < budget
    more = omega (arith, y.choice.state.counted)

    step_more : steps + 1 ≡ suc steps
    step_more = omega arith

    pub won_found : judged mode g longer ≡ Search.won → first (take (depth + 1) next) (steps + 1) ≡ found mode g budget
    won_found h =
        let k : depth + 1 ≡ suc depth = omega arith in
        ap₂ first (ap (λ (d : ℕ). take d next) k ∙ (next_path y)) step_more
        ∙ sym (loop_won n block (judged mode g) here (suc t) (members (left - 2 ^ t) n) (untried_above n untried depth) steps budget more h) ∙ what_is_left y.choice

    stayed : trying here ((suc t ∷ members (left - 2 ^ t) n) ∷ untried_above n untried depth) steps ≡ trying here (members (left - 2 ^ t) n ∷ untried_above n untried depth) (suc steps)
        → Searching mode g budget blocks path₀ next untried stops there (left - 2 ^ t) used depth (steps + 1)
    stayed z =
        record {
          formed = y.choice.state.formed;
          blocks_are = y.choice.state.blocks_are;
          path_long = next_long y;
          untried_long = y.choice.state.untried_long;
          stops_long = y.choice.state.stops_long;
          kept = next_kept y;
          shallow = y.choice.state.shallow;
          counted = omega (arith, more);
          in_use = rw (before y depth (omega arith)) y.choice.state.in_use;
          follows = rw (before y depth (omega arith)) y.choice.state.follows;
          opened = λ d a b. rw (before y d b) (y.choice.state.opened d a b);
          stopping = λ rows. stopping_kept g.edges g.unknowns n depth path next stops (before y) (same_first y) (y.choice.state.stopping rows);
          places_long = there_long y;
          placed_at = there_before y;
          left_below = rest_small y.choice;
          masks = y.choice.state.masks;
          left_untaken = rw (before y depth (omega arith)) (rest_untaken y.choice);
          untaken = λ d h v m. rw (before y d (omega arith)) (y.choice.state.untaken d h v m);
          rest = rw (before y depth (omega arith), step_more) (sym z ∙ (what_is_left y.choice));
        }

    pub lost_stays : judged mode g longer ≡ Search.lost → Searching mode g budget blocks path₀ next untried stops there (left - 2 ^ t) used depth (steps + 1)
    lost_stays h = stayed (loop_lost n block (judged mode g) here (suc t) (members (left - 2 ^ t) n) (untried_above n untried depth) steps budget more h)

    pub full_stays : n ≤ suc depth → judged mode g longer ≢ Search.won → Searching mode g budget blocks path₀ next untried stops there (left - 2 ^ t) used depth (steps + 1)
    full_stays k h =
        stayed (loop_full n block (judged mode g) here (suc t) (members (left - 2 ^ t) n) (untried_above n untried depth) steps budget more (omega (arith, long y.choice)) h)

    -- ---- deeper

    module _ (l : suc depth < n) (h : judged mode g longer ≡ Search.«open») (blk fresh : ℕ) (k : blk ≡ get_or blocks (suc depth) 0) (f : fresh ≡ blk - bit_and blk (used + 2 ^ t)) where
      its_block : blk ≡ block_mask block n (suc (suc depth))
      its_block = k ∙ block_at g blocks y.choice.state.blocks_are (suc depth) l

      its_children : members fresh n ≡ children n block longer
      its_children =
          mask_children n block longer (longer_follows y.choice) fresh blk (used + 2 ^ t) (its_block ∙ ap (λ (i : ℕ). block_mask block n (suc i)) (sym (longer_length y.choice))) (longer_used y.choice) f

      module _ (deeper : List ℕ) (v : deeper ≡ set untried depth (left - 2 ^ t)) (after : List ℕ) (o : mode ≢ 2 → Stopped g.edges g.unknowns n depth (used + 2 ^ t) (at next 1) stops after) (after_long : length after ≡ 32) where
        stored : get_or deeper depth 0 ≡ left - 2 ^ t
        stored = rw v (get_or-set_same untried depth (left - 2 ^ t) 0 (omega (arith, y.choice.state.untried_long, y.choice.state.shallow, high y.choice)))

        elsewhere : (d : ℕ) → d < depth → get_or deeper d 0 ≡ get_or untried d 0
        elsewhere d a = rw v (get_or-set_other untried depth d (left - 2 ^ t) 0 (omega arith))

        now_stopping : mode ≢ 2 → Stopping g.edges g.unknowns n (depth + 1) next after
        now_stopping rows_mode =
            let one_more : depth + 1 ≡ suc depth = omega arith in
            stopping_more g.edges g.unknowns n depth path next stops (before y) (same_first y) (y.choice.state.stopping rows_mode) (used + 2 ^ t) (longer_used y.choice ∙ ap used_mask (sym (next_path y)) ∙ ap (λ (d : ℕ). used_mask (take d next)) (sym one_more)) after (o rows_mode)
            y.choice.state.stops_long (omega (arith, l, high y.choice)) (omega arith)

        all_untried : members fresh n ∷ untried_above n deeper (suc depth) ≡ children n block longer ∷ members (left - 2 ^ t) n ∷ untried_above n untried depth
        all_untried =
            ap₂ (λ (x : List ℕ) (w : List (List ℕ)). x ∷ w) its_children
            (above_more n deeper depth
            ∙ ap₂ (λ (x : ℕ) (w : List (List ℕ)). members x n ∷ w) stored (ap (λ (y : List ℕ). untried_above n y depth) v ∙ above_stored n untried depth (left - 2 ^ t) depth (omega arith)))

        went_deeper : Searching mode g budget blocks path₀ next deeper after there fresh (used + 2 ^ t) (suc depth) (suc steps)
        went_deeper =
            record {
              formed = y.choice.state.formed;
              blocks_are = y.choice.state.blocks_are;
              path_long = next_long y;
              untried_long = ap length v ∙ length-set untried depth (left - 2 ^ t) ∙ y.choice.state.untried_long;
              stops_long = after_long;
              kept = next_kept y;
              shallow = l;
              counted = omega (arith, more);
              in_use = longer_used y.choice ∙ ap used_mask (sym (next_path y));
              follows = rw (next_path y) (longer_follows y.choice);
              opened = λ d a b. ⊎_elim (λ (e : d ≡ suc depth). ap (λ (i : ℕ). judged mode g (take i next)) e ∙ ap (judged mode g) (next_path y) ∙ h) (λ (e : d < suc depth). rw (before y d (omega arith)) (y.choice.state.opened d a (omega arith))) (eq-or-lt_of_le b);
              stopping = λ rows_mode. let one_more : depth + 1 ≡ suc depth = omega arith in rw one_more at (now_stopping rows_mode);
              places_long = there_long y;
              placed_at = λ i a b. by_same i (depth + 1) (λ (q : i ≡ depth + 1). rw q (there_last y)) (λ (q : i ≢ depth + 1). (there_before y) i a (omega arith));
              left_below = mask_fits block n (suc (suc depth)) fresh blk (used + 2 ^ t) its_block f;
              masks = λ d a. ⊎_elim (λ (e : d ≡ depth). rw (ap (λ (i : ℕ). get_or deeper i 0) e ∙ stored) (rest_small y.choice)) (λ (e : d < depth). rw (elsewhere d e) (y.choice.state.masks d e)) (eq-or-lt_of_le {n = d} {m = depth} (omega arith));
              left_untaken = λ w m. rw (next_path y) (child_of_mem n block longer w (subst (λ (x : List ℕ). Memᴰ w x) its_children m));
              untaken = λ d a w m. rw (before y d (omega arith)) (⊎_elim (λ (e : d ≡ depth). rw e (rest_untaken y.choice w (subst (λ (x : ℕ). Memᴰ w (members x n)) (ap (λ (i : ℕ). get_or deeper i 0) e ∙ stored) m))) (λ (e : d < depth). y.choice.state.untaken d e w (subst (λ (x : ℕ). Memᴰ w (members x n)) (elsewhere d e) m)) (eq-or-lt_of_le {n = d} {m = depth} (omega arith)));
              rest =
                  rw (next_path y, all_untried)
                  (sym (loop_deeper n block (judged mode g) here (suc t) (members (left - 2 ^ t) n) (untried_above n untried depth) steps budget more (omega (arith, long y.choice, l)) h) ∙ (what_is_left y.choice));
            }

        pub deepened : Searching mode g budget blocks path₀ next deeper after there fresh (used + 2 ^ t) (depth + 1) (steps + 1)
        deepened = let one_more : depth + 1 ≡ suc depth = omega arith in rw (one_more, step_more) went_deeper
