-- A vertex that is put at the last place stops there exactly where its pair with place 1 does not go on. So the stops, how that pair
-- counts and the walk of the other rows judge a beginning.
use Prim.Native.Nat.{ℕ, zero, suc, ◌+◌, ◌-◌, ◌*◌, ◌^◌, ◌≤◌, ◌<◌, max}
use native.Mathlib.Omega.{arith}
use mathlib.Core.Path.{◌≡◌, refl, sym, ap, ◌∙◌}
use mathlib.Core.Logic.{◌≢◌, ◌⊎◌, inl, inr, ◌↔◌, ⊎_elim}
use mathlib.Core.Bool.{Bool, true, false, not}
use mathlib.Core.List.{List, [], ◌∷◌, ◌++◌, Memᴰ}
use lib.Dec.{eqb}
use lib.ListN.{length}
use lib.Pow.{pow_pos}
use borrow.Author.Tests.{eqb-true, eq-eqb, ne_eqb, lt-ltb, le-ltb}
use Rattle.laws.specs.Test.{both, either, pick}
use Rattle.laws.specs.TestLaws.{fails, same_test, pick_true, pick_false}
use Rattle.laws.specs.Bit.{bit}
use Rattle.laws.specs.BitLaws.{bit_small, bit_of_zero, bit_of_or, bit_of_power, bit_of_power_other, bits_past}
use Rattle.laws.specs.Compared.{by_same, by_below}
use Rattle.laws.specs.Masks.{bit_of_without}
use Rattle.beginnings.specs.Beginning.{Beginning, absent}
use Rattle.beginnings.specs.Search
use Rattle.beginnings.proofs.Children.{absent_true, absent_false}
use Rattle.beginnings.proofs.Follows.{Follows, length_more}
use Rattle.graph.specs.declared.Graph.{Graph}
use Rattle.words.specs.Placed.{row}
use Rattle.rows.specs.Rows.{block_of}
use Rattle.graph.specs.WellFormed.{WellFormed}
use Rattle.arrangements.specs.Arrangement.{at}
use Rattle.pairs.specs.Pairs.{Pair, pair, from_row}
use Rattle.schemes.specs.Free.{place_of}
use Rattle.plain.specs.Plain.{same_pair, pair_of_two}
use Rattle.plain.specs.Before.{row_before}
use Rattle.plain.proofs.RowOne.{two_before, source_before}
use Rattle.turns.specs.Turns.{all_marks, count_by, turn_by, turn_of, turn_at, walk_code, Places}
use Rattle.stops.specs.Used.{used_mask}
use Rattle.stops.specs.Stops.{own_mask, passed_mask, marks_at, source_bit, one_at, stops_by, stops_at}
use Rattle.judging.proofs.Arrangements.{two_are}
use Rattle.turns.proofs.Ones.{all_bits, ones_bit}
use Rattle.turns.proofs.TurnCodes.{count_small}
use Rattle.turns.proofs.LastJudged.{judged_by_rows, judgement_code, code_won, code_open, code_lost, code_not_won, one_open, here_turn, short_code, full_code}
use Rattle.stops.proofs.UsedLaws.{used_bit}

-- ---- a bit of the stops

-- an entry less what has passed
count_mark : (e w : ℕ) (b : Bool) → e < 2 → w < 2 → e + 2 * w ≤ 2 → max e (w - pick b 1 0) ≡ count_by e w (not b)
unfolding count_by pick
count_mark zero zero true a c s = refl
count_mark zero zero false a c s = refl
count_mark (suc zero) zero true a c s = refl
count_mark (suc zero) zero false a c s = refl
count_mark zero (suc zero) true a c s = refl
count_mark zero (suc zero) false a c s = refl
count_mark (suc zero) (suc zero) b a c s = absurd (omega arith)
count_mark zero (suc (suc w)) b a c s = absurd (omega arith)
count_mark (suc zero) (suc (suc w)) b a c s = absurd (omega arith)
count_mark (suc (suc e)) w b a c s = absurd (omega arith)

module _ (u k v : ℕ) (h : 1 < k) (lu : 1 ≤ u) (l : 1 ≤ v) where
  -- what comes before (1, k)
  passes : Bool
  passes = row_before (pair_of_two u v) (pair 1 k)

  passed_by : (((u ≡ 1) × (1 ≤ v) × (v < k)) ⊎ ((v ≡ 1) × (1 ≤ u) × (u < k))) → passes ≡ true
  unfolding passes
  passed_by = (two_before u v k (omega arith)).1

  not_passed : ((((u ≡ 1) × (1 ≤ v) × (v < k)) ⊎ ((v ≡ 1) × (1 ≤ u) × (u < k))) → ⊥) → passes ≡ false
  unfolding passes
  not_passed n = fails passes (λ t. n ((two_before u v k (omega arith)).0 t))

  PassedTold : Type 0
  PassedTold = bit (passed_mask u k) (v - 1) ≡ pick passes 1 0

  passed_told_first : u ≡ 1 → PassedTold
  unfolding PassedTold passed_mask pick
  passed_told_first e =
      rw (eq-eqb u 1 e)
      (by_below v k
      (λ (q : v < k). rw (passed_by (inl (e, l, q))) (ones_bit (k - 1) (v - 1) (omega arith)))
      (λ (q : k ≤ v).
      rw (not_passed (λ s. ⊎_elim (λ (x : (u ≡ 1) × (1 ≤ v) × (v < k)). omega (arith, x.2)) (λ (x : (v ≡ 1) × (1 ≤ u) × (u < k)). omega (arith, x.0)) s))
      (bits_past (2 ^ (k - 1) - 1) (k - 1) (v - 1) (omega (arith, pow_pos (k - 1))) (omega arith))))

  passed_told_later : u ≢ 1 → u < k → PassedTold
  unfolding PassedTold passed_mask pick
  passed_told_later d q =
      rw (ne_eqb u 1 d, lt-ltb u k q)
      (by_same v 1 (λ (e : v ≡ 1). rw (passed_by (inr (e, lu, q))) (let place : v - 1 ≡ 0 = omega arith in rw place (bit_of_power 0)))
      (λ (e : v ≢ 1).
      rw (not_passed (λ s. ⊎_elim (λ (x : (u ≡ 1) × (1 ≤ v) × (v < k)). d x.0) (λ (x : (v ≡ 1) × (1 ≤ u) × (u < k)). e x.0) s))
      (bit_of_power_other 0 (v - 1) (omega arith))))

  passed_told_none : u ≢ 1 → k ≤ u → PassedTold
  unfolding PassedTold passed_mask pick
  passed_told_none d q =
      rw (ne_eqb u 1 d, le-ltb u k q, not_passed (λ s. ⊎_elim (λ (x : (u ≡ 1) × (1 ≤ v) × (v < k)). d x.0) (λ (x : (v ≡ 1) × (1 ≤ u) × (u < k)). omega (arith, x.2)) s))
      (bit_of_zero (v - 1))

  -- the mask has v exactly where the pair of u and v comes before (1, k)
  passed_told : bit (passed_mask u k) (v - 1) ≡ pick (row_before (pair_of_two u v) (pair 1 k)) 1 0
  unfolding PassedTold passes
  passed_told = by_same u 1 passed_told_first (λ d. by_below u k (passed_told_later d) (passed_told_none d))

  -- so a mark is how the pair of u and v counts as an image
  marks_told : (marks hidden : ℕ) → bit marks (v - 1) + 2 * bit hidden (v - 1) ≤ 2
      → bit (marks_at marks hidden u k) (v - 1) ≡ count_by (bit marks (v - 1)) (bit hidden (v - 1)) (not (row_before (pair_of_two u v) (pair 1 k)))
  unfolding marks_at
  marks_told marks hidden s =
      bit_of_or marks _ (v - 1)
      ∙ ap (max (bit marks (v - 1))) (bit_of_without hidden (passed_mask u k) (v - 1) ∙ ap (λ (x : ℕ). bit hidden (v - 1) - x) passed_told)
      ∙ count_mark (bit marks (v - 1)) (bit hidden (v - 1)) (row_before (pair_of_two u v) (pair 1 k)) (bit_small marks (v - 1)) (bit_small hidden (v - 1)) s

  OwnTold : Type 0
  OwnTold = bit (own_mask u k) (v - 1) ≡ pick (either (both (eqb u 1) (eqb v k)) (both (eqb u k) (eqb v 1))) 1 0

  own_told_first : u ≡ 1 → OwnTold
  unfolding OwnTold own_mask pick both either
  own_told_first e =
      rw (eq-eqb u 1 e, ne_eqb u k (λ q. omega arith))
      (by_same v k (λ (q : v ≡ k). rw (eq-eqb v k q) (let place : v - 1 ≡ k - 1 = omega arith in rw place (bit_of_power (k - 1))))
      (λ (q : v ≢ k). rw (ne_eqb v k q) (bit_of_power_other (k - 1) (v - 1) (omega arith))))

  own_told_later : u ≢ 1 → u ≡ k → OwnTold
  unfolding OwnTold own_mask pick both either
  own_told_later d e =
      rw (ne_eqb u 1 d, eq-eqb u k e)
      (by_same v 1 (λ (q : v ≡ 1). rw (eq-eqb v 1 q) (let place : v - 1 ≡ 0 = omega arith in rw place (bit_of_power 0)))
      (λ (q : v ≢ 1). rw (ne_eqb v 1 q) (bit_of_power_other 0 (v - 1) (omega arith))))

  own_told_none : u ≢ 1 → u ≢ k → OwnTold
  unfolding OwnTold own_mask pick both either
  own_told_none d e = rw (ne_eqb u 1 d, ne_eqb u k e) (bit_of_zero (v - 1))

  -- the mask has v exactly where the pair of u and v is (1, k)
  own_told : bit (own_mask u k) (v - 1) ≡ pick (same_pair (pair_of_two u v) (pair 1 k)) 1 0
  unfolding OwnTold
  own_told = rw (two_are u v 1 k h) (by_same u 1 own_told_first (λ d. by_same u k (own_told_later d) (own_told_none d)))

  module _ (one marks : ℕ) (small : one ≤ 1) (b : v ≤ 32) where
    StopTold : Type 0
    StopTold = bit (stops_by one marks u k) (v - 1) ≡ pick (eqb (turn_by one (bit marks (v - 1)) (same_pair (pair_of_two u v) (pair 1 k))) 0) 0 1

    stop_told_edge : one ≡ 1 → StopTold
    unfolding StopTold stops_by turn_by pick
    stop_told_edge e =
        rw (e, bit_of_without all_marks marks (v - 1), all_bits (v - 1) (omega arith))
        (by_same 1 (bit marks (v - 1)) (λ (q : 1 ≡ bit marks (v - 1)). rw (eq-eqb 1 (bit marks (v - 1)) q) (omega arith))
        (λ (q : 1 ≢ bit marks (v - 1)). rw (ne_eqb 1 (bit marks (v - 1)) q) (omega (arith, bit_small marks (v - 1)))))

    stop_told_gap : one ≡ 0 → StopTold
    unfolding StopTold stops_by turn_by pick
    stop_told_gap e =
        rw (e, bit_of_without marks (own_mask u k) (v - 1), own_told)
        (by_same 0 (bit marks (v - 1)) (λ (q : 0 ≡ bit marks (v - 1)). rw (eq-eqb 0 (bit marks (v - 1)) q) (omega arith))
        (λ (q : 0 ≢ bit marks (v - 1)). rw (ne_eqb 0 (bit marks (v - 1)) q) (by_own (same_pair (pair_of_two u v) (pair 1 k)) (omega (arith, bit_small marks (v - 1))))))
      where
        by_own : (own : Bool) → bit marks (v - 1) ≡ 1 → bit marks (v - 1) - pick own 1 0 ≡ pick (eqb (pick own 0 1) 0) 0 1
        by_own true q = omega arith
        by_own false q = omega arith

    -- a vertex stops exactly where its pair with place 1 does not go on
    pub stop_told : bit (stops_by one marks u k) (v - 1) ≡ pick (eqb (turn_by one (bit marks (v - 1)) (same_pair (pair_of_two u v) (pair 1 k))) 0) 0 1
    unfolding StopTold
    stop_told = by_same one 1 stop_told_edge (λ d. stop_told_gap (omega arith))

-- a turn that does not go on is told by how the pair counts
turn_decided : (a b : ℕ) (own : Bool) → turn_by a b own ≢ 0 → turn_by a b own ≡ pick (eqb a 1) 2 1
unfolding turn_by pick
turn_decided a b own = go (eqb a b) (eqb a 1) own
  where
    go : (s t o : Bool) → ◌≢◌ {A = ℕ} (pick s 0 (pick t 2 (pick o 0 1))) 0 → ◌≡◌ {A = ℕ} (pick s 0 (pick t 2 (pick o 0 1))) (pick t 2 1)
    go true t o d = absurd (d refl)
    go false true o d = refl
    go false false true d = absurd (d refl)
    go false false false d = refl

-- one vertex has no rows after the first
pub no_rows : (n : ℕ) (t : Pair → ℕ) → n ≤ 1 → walk_code t (from_row 2 (n - 2)) ≡ 0
unfolding from_row walk_code
no_rows n t h = let z : n - 2 ≡ 0 = omega arith in rw z

-- ---- the source of (1, k)

module _ (n : ℕ) (block : ℕ → ℕ) (b : List ℕ) (f : Follows n block [] b) where
  -- the mask has the vertices of b
  used_has : (v : ℕ) → 1 ≤ v → (bit (used_mask b) (v - 1) ≡ 1) ↔ Memᴰ v b
  unfolding pick
  used_has v l = (λ e. to (absent b v) refl (used_bit n block b f v l) e, λ m. from (absent b v) refl (used_bit n block b f v l) m)
    where
      to : (t : Bool) → absent b v ≡ t → bit (used_mask b) (v - 1) ≡ pick t 0 1 → bit (used_mask b) (v - 1) ≡ 1 → Memᴰ v b
      to true a e q = absurd (omega arith)
      to false a e q = absent_false b v a

      from : (t : Bool) → absent b v ≡ t → bit (used_mask b) (v - 1) ≡ pick t 0 1 → Memᴰ v b → bit (used_mask b) (v - 1) ≡ 1
      from true a e m = absurd (absent_true b v a m)
      from false a e m = e

  module _ (v : ℕ) (begun : 1 ≤ length b) (more : Beginning n block (b ++ v ∷ [])) where
    SourceTold : Type 0
    SourceTold = (source_bit (used_mask b) (at b 1) (suc (length b)) ≡ 1) ↔ (((at b 1 ≡ 1) × Memᴰ (suc (length b)) b) ⊎ ((at b 1 ≡ suc (length b)) × Memᴰ 1 b))

    source_first : at b 1 ≡ 1 → SourceTold
    unfolding SourceTold source_bit pick
    source_first e =
        rw (eq-eqb (at b 1) 1 e) (
          λ q. inl (e, (used_has (suc (length b)) (omega arith)).0 q),
          λ s. ⊎_elim (λ (x : (at b 1 ≡ 1) × Memᴰ (suc (length b)) b). (used_has (suc (length b)) (omega arith)).1 x.1) (λ (x : (at b 1 ≡ suc (length b)) × Memᴰ 1 b). absurd (omega (arith, x.0))) s,
        )

    source_later : at b 1 ≢ 1 → at b 1 ≡ suc (length b) → SourceTold
    unfolding SourceTold source_bit pick
    source_later d e =
        rw (ne_eqb (at b 1) 1 d, eq-eqb (at b 1) (suc (length b)) e) (
          λ q. inr (e, (used_has 1 (omega arith)).0 q),
          λ s. ⊎_elim (λ (x : (at b 1 ≡ 1) × Memᴰ (suc (length b)) b). absurd (d x.0)) (λ (x : (at b 1 ≡ suc (length b)) × Memᴰ 1 b). (used_has 1 (omega arith)).1 x.1) s,
        )

    source_never : at b 1 ≢ 1 → at b 1 ≢ suc (length b) → SourceTold
    unfolding SourceTold source_bit pick
    source_never d e =
        rw (ne_eqb (at b 1) 1 d, ne_eqb (at b 1) (suc (length b)) e) (
          λ q. absurd (omega arith),
          λ s. ⊎_elim (λ (x : (at b 1 ≡ 1) × Memᴰ (suc (length b)) b). absurd (d x.0)) (λ (x : (at b 1 ≡ suc (length b)) × Memᴰ 1 b). absurd (e x.0)) s,
        )

    -- the bit tells whether the source of (1, k) comes before it
    pub source_told : eqb (source_bit (used_mask b) (at b 1) (suc (length b))) 1 ≡ row_before (pair_of_two (place_of (at (b ++ v ∷ [])) (length (b ++ v ∷ [])) 1) (place_of (at (b ++ v ∷ [])) (length (b ++ v ∷ [])) (suc (length b)))) (pair 1 (suc (length b)))
    unfolding SourceTold
    source_told =
        let told : SourceTold = by_same (at b 1) 1 source_first (λ d. by_same (at b 1) (suc (length b)) (source_later d) (source_never d)) in
        let before = source_before n block b v begun more in
        same_test _ _ (λ t. before.1 (told.0 (eqb-true _ 1 t))) (λ t. eq-eqb _ 1 (told.1 (before.0 t)))

-- how (1, k) counts is 0 or 1
pub one_small : (ones doubts used u k : ℕ) → one_at ones doubts used u k ≤ 1
unfolding one_at
one_small ones doubts used u k = count_small _ _ _ (bit_small ones (k - 1))

-- ---- judgements

-- how a beginning b of length k is judged by the bit of its last vertex in the stops, how (1, k) counts, and the walk of the other rows
pub record ByStop (g : Graph) (b : List ℕ) (k stop one rows : ℕ) : Type 0 where
  pub stop_wins : stop ≡ 1 → one ≡ 1 → judged_by_rows g b ≡ Search.won
  pub stop_loses : stop ≡ 1 → one ≢ 1 → judged_by_rows g b ≡ Search.lost
  pub short_open : stop ≢ 1 → k < g.order → judged_by_rows g b ≡ Search.«open»
  pub full_wins : stop ≢ 1 → g.order ≤ k → rows ≡ 2 → judged_by_rows g b ≡ Search.won
  pub full_fails : stop ≢ 1 → g.order ≤ k → rows ≢ 2 → judged_by_rows g b ≢ Search.won

-- at place 1 nothing stops
pub first_stop : (g : Graph) (formed : WellFormed g) (v one rows : ℕ) → (g.order ≤ 1 → rows ≡ 0) → ByStop g (v ∷ []) 1 0 one rows
first_stop g formed v one rows none =
    record {
      stop_wins = λ e. absurd (omega arith);
      stop_loses = λ e. absurd (omega arith);
      short_open = λ d k. one_open g v formed.order_low;
      full_wins = λ d k e. absurd (omega (arith, none k));
      full_fails = λ d k e w. let z : ◌≡◌ {A = ℕ} 0 1 = cc (one_open g v formed.order_low, w) in absurd (omega arith);
    }

module _ (g : Graph) (formed : WellFormed g) (b : List ℕ) (v : ℕ) (begun : 1 ≤ length b) (follows : Follows g.order (block_of g.starts) [] b) (begins : Beginning g.order (block_of g.starts) b) (more : Beginning g.order (block_of g.starts) (b ++ v ∷ []))
    (so_far : judged_by_rows g b ≡ Search.«open») (low : 1 ≤ v) (high : v ≤ 32) (first : 1 ≤ at b 1) where
  abbrev k : ℕ
  k = suc (length b)

  abbrev e : List ℕ
  e = g.edges

  abbrev w : List ℕ
  w = g.unknowns

  abbrev one : ℕ
  one = one_at (row g.edges 1) (row g.unknowns 1) (used_mask b) (at b 1) (suc (length b))

  abbrev stop : ℕ
  stop = bit (stops_at g.edges g.unknowns (used_mask b) (at b 1) (suc (length b))) (v - 1)

  abbrev turn : ℕ
  turn = here_turn g formed b v begun begins more so_far

  -- the turn of (1, k) by how it and its image count
  turn_is : turn ≡ turn_by one (bit (marks_at (row g.edges (at b 1)) (row g.unknowns (at b 1)) (at b 1) (suc (length b))) (v - 1)) (same_pair (pair_of_two (at b 1) v) (pair 1 (suc (length b))))
  unfolding turn_of one_at
  turn_is =
      rw (source_told g.order (block_of g.starts) b follows v begun more, marks_told (at b 1) k v (omega arith) first low (row e (at b 1)) (row w (at b 1)) (formed.not_both (at b 1) v))

  -- the stop tells whether the pair goes on
  stop_is : stop ≡ pick (eqb turn 0) 0 1
  unfolding stops_at
  stop_is = rw turn_is (stop_told (at b 1) k v (omega arith) first low one (marks_at (row e (at b 1)) (row w (at b 1)) (at b 1) k) (one_small (row e 1) (row w 1) (used_mask b) (at b 1) k) high)

  stop_decides : stop ≡ 1 → turn ≢ 0
  unfolding pick
  stop_decides s z = let c : stop ≡ 0 = stop_is ∙ rw (eq-eqb turn 0 z) in omega arith

  goes_on : stop ≢ 1 → turn ≡ 0
  unfolding pick
  goes_on d = by_same turn 0 (λ (z : turn ≡ 0). z) (λ (z : turn ≢ 0). absurd (d (stop_is ∙ rw (ne_eqb turn 0 z))))

  module _ (q : List ℕ) (places : suc (length b) ≡ g.order → Places g.order (b ++ v ∷ []) q) where
    abbrev rows : ℕ
    rows = walk_code (turn_at row_before g.edges g.unknowns (b ++ v ∷ []) q) (from_row 2 (g.order - 2))

    by_one : stop ≡ 1 → judgement_code (judged_by_rows g (b ++ v ∷ [])) ≡ pick (eqb one 1) 2 1
    by_one s =
        let d : eqb turn 0 ≡ false = ne_eqb turn 0 (stop_decides s) in
        by_same k g.order
        (λ (c : suc (length b) ≡ g.order). full_code g formed b v begun begins more so_far c q (places c) ∙ pick_false (eqb turn 0) rows turn d)
        (λ (c : suc (length b) ≢ g.order). short_code g formed b v begun begins more so_far (omega (arith, more.fits, length_more b v)) ∙ pick_false (eqb turn 0) 0 turn d)
        ∙ turn_is ∙ turn_decided one _ _ (λ z. stop_decides s (turn_is ∙ z))

    -- at a stop the pair's own count decides; elsewhere a beginning with places left is open, and the rows decide one with none
    pub by_stop : ByStop g (b ++ v ∷ []) (suc (length b)) stop one rows
    by_stop =
        record {
          stop_wins = λ s a. code_won (judged_by_rows g (b ++ v ∷ [])) (by_one s ∙ pick_true _ 2 1 (eq-eqb one 1 a));
          stop_loses = λ s a.
              let c : judgement_code (judged_by_rows g (b ++ v ∷ [])) ≡ 1 = by_one s ∙ pick_false _ 2 1 (ne_eqb one 1 a) in
              code_lost (judged_by_rows g (b ++ v ∷ [])) (λ x. absurd (omega arith)) (λ x. absurd (omega arith));
          short_open = λ d l. code_open (judged_by_rows g (b ++ v ∷ [])) (short_code g formed b v begun begins more so_far l ∙ pick_true (eqb turn 0) 0 turn (eq-eqb turn 0 (goes_on d)));
          full_wins = λ d l r. code_won (judged_by_rows g (b ++ v ∷ [])) (by_rows d l ∙ r);
          full_fails = λ d l a. code_not_won (judged_by_rows g (b ++ v ∷ [])) (λ c. a (sym (by_rows d l) ∙ c));
        }
      where
        by_rows : stop ≢ 1 → g.order ≤ suc (length b) → judgement_code (judged_by_rows g (b ++ v ∷ [])) ≡ rows
        by_rows d l =
            let c : suc (length b) ≡ g.order = omega (arith, more.fits, length_more b v) in
            full_code g formed b v begun begins more so_far c q (places c) ∙ pick_true (eqb turn 0) rows turn (eq-eqb turn 0 (goes_on d))
