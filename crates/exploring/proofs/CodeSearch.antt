-- The ways round the search's loop, as its code meets them.
use Prim.Native.Nat.{ℕ, suc, ◌+◌, ◌-◌, ◌^◌, ◌≤◌, ◌<◌}
use native.Mathlib.Nat.{lt_of_lt_of_le}
use native.Mathlib.Omega.{arith}
use mathlib.Core.Path.{◌≡◌, refl, ap}
use mathlib.Core.Logic.{◌≢◌, ◌⊎◌, inl, inr}
use mathlib.Core.Bool.{true}
use mathlib.Core.List.{List, [], ◌∷◌, ◌++◌}
use lib.Bits.{bit_and}
use lib.Count.{count_trailing_zeros}
use lib.Dec.{eqb}
use lib.ListN.{length, get_or, set, take, drop}
use lib.Pow.{pow_mono}
use Rattle.laws.specs.Test.{pick}
use Rattle.laws.specs.Bit.{bit}
use Rattle.beginnings.specs.Search.{Found, cut, none, first, won, lost}
use Rattle.words.specs.Placed.{row}
use Rattle.pairs.specs.Pairs.{from_row}
use Rattle.pairs.specs.Columns.{down_column}
use Rattle.plain.specs.Before.{row_before}
use Rattle.graph.specs.WellFormed.{well_formed}
use Rattle.graph.proofs.Formed.{formed}
use Rattle.judging.specs.Judging.{judged, found}
use Rattle.arrangements.specs.Arrangement.{at}
use Rattle.turns.specs.Turns.{Within, Places, turn_at, walk_code}
use Rattle.stops.specs.Stops.{one_at, Stopped}
use Rattle.stops.specs.Tried.{tried_by}
use Rattle.stops.proofs.CodeTried.{Judges}
use Rattle.column_walks.specs.Columns.{turn_in_column, tried_down}
use Rattle.graph.specs.Graph.{graph_of}
use Rattle.exploring.proofs.Searching.{Searching, path_vertex, over, climbed, used_within}
use Rattle.exploring.proofs.Choosing.{Choosing, place_fits_lem, weight_within, weight_used, cut_short}
use Rattle.exploring.proofs.Trying.{Trying, next_within, next_places, next_vertex}
use Rattle.exploring.proofs.TriedJudged.{judges_tried}
use Rattle.exploring.proofs.NextTurn.{won_found, lost_stays, full_stays, deepened}

pub order_bounded : (n : ℕ) (e u : List ℕ) (s : ℕ) → well_formed (graph_of n e u s) ≡ true → n ≤ 32
order_bounded n e u s h = (formed (graph_of n e u s) h).order_high

-- ---- at each turn

module _ {mode n : ℕ} {e u : List ℕ} {b budget : ℕ} {blocks path₀ path untried stops places : List ℕ} {left used depth steps : ℕ}
    (s : Searching mode (graph_of n e u b) budget blocks path₀ path untried stops places left used depth steps) where
  -- the places after n are as they were
  pub path_kept : drop n path ≡ drop n path₀
  path_kept = s.kept

  -- ---- nothing is left at this depth

  pub ends_none : left ≡ 0 → depth ≡ 0 → none steps ≡ found mode (graph_of n e u b) budget
  ends_none z h = over s z h

  module _ (some : depth ≢ 0) where
    pub last_low : 1 ≤ get_or path (depth - 1) 0
    last_low = (path_vertex s (depth - 1) (omega arith)).0

    pub last_high : get_or path (depth - 1) 0 ≤ 32
    last_high = omega (arith, (path_vertex s (depth - 1) (omega arith)).1, s.formed.order_high)

    module _ (w : ℕ) (q : w ≡ 2 ^ (get_or path (depth - 1) 0 - 1)) where
      pub last_used : w ≤ used
      last_used = used_within s (depth - 1) w (omega arith) q

      pub climbs : left ≡ 0 → Searching mode (graph_of n e u b) budget blocks path₀ path untried stops places (get_or untried (depth - 1) 0) (used - w) (depth - 1) steps
      climbs z = climbed s z (depth - 1) w (omega arith) q

  -- ---- the lowest untried vertex is tried

  module _ (some : left ≢ 0) where
    pub ends_cut : steps ≡ budget → cut ≡ found mode (graph_of n e u b) budget
    ends_cut h = cut_short (record { state = s; some = some; lowest = refl }) h

    module _ (t : ℕ) (q : t ≡ count_trailing_zeros 32 left) where
      chosen : Choosing mode (graph_of n e u b) budget blocks path₀ path untried stops places left used depth steps t
      chosen = record { state = s; some = some; lowest = q }

      pub low_place : t < 32
      low_place = place_fits_lem chosen

      module _ (w : ℕ) (k : w ≡ 2 ^ t) where
        pub mask_holds : w ≤ left
        mask_holds = rw k (weight_within chosen)

        pub used_fits : used + w < 2 ^ 32
        used_fits = rw k (lt_of_lt_of_le (weight_used chosen) (pow_mono {j = 32} s.formed.order_high))

      pub tries : (v : ℕ) → v ≡ t + 1 → (r : ℕ) → r ≡ depth + 1 → Trying mode (graph_of n e u b) budget blocks path₀ path untried stops places left used depth steps t (set path depth v) (set places t r)
      tries v p r q' = record { choice = chosen; put = ap (set path depth) p; placed = ap (set places t) q' }

      pub longer_within : (v : ℕ) → v ≡ t + 1 → Within (depth + 1) (set path depth v)
      longer_within v p = next_within (tries v p (depth + 1) refl)

      pub longer_places : (v : ℕ) → v ≡ t + 1 → (r : ℕ) → r ≡ depth + 1 → n ≤ depth + 1 → Places n (set path depth v) (set places t r)
      longer_places v p r q' = next_places (tries v p r q')

-- ---- with the vertex tried

module _ {mode n : ℕ} {e u : List ℕ} {b budget : ℕ} {blocks path₀ path untried stops places : List ℕ} {left used depth steps t : ℕ} {next there : List ℕ}
    (y : Trying mode (graph_of n e u b) budget blocks path₀ path untried stops places left used depth steps t next there) where
  abbrev longer : List ℕ
  longer = take depth path ++ (suc t ∷ [])

  pub first_low : (x : ℕ) → x ≡ at next 1 → 1 ≤ x
  first_low x z = rw z (next_vertex y).0

  pub first_high : (x : ℕ) → x ≡ at next 1 → x ≤ 32
  first_high x z = rw z (next_vertex y).1

  -- how the longer beginning is judged
  pub judges : (ones doubts w with code : ℕ) → ones ≡ row e 1 → doubts ≡ row u 1 → w ≡ 2 ^ t → with ≡ used + w
      → code ≡ pick (eqb mode 2) (tried_down (walk_code (turn_in_column e u next there with) (down_column (depth + 1) (depth + 1 - 1))) (depth + 1) n) (tried_by (bit (get_or stops depth 0) t) (one_at ones doubts used (at next 1) (depth + 1)) (walk_code (turn_at row_before e u next there) (from_row 2 (n - 2))) (depth + 1) n)
      → Judges n (judged mode (graph_of n e u b) (take depth path ++ (suc t ∷ []))) (suc depth) code
  judges ones doubts w with code po pd pw pm c = let one_more : depth + 1 ≡ suc depth = omega arith in rw (c, one_more, po, pd, pm, pw) (judges_tried y)

  module _ (unspent : steps ≢ budget) {code : ℕ} (j : Judges n (judged mode (graph_of n e u b) (take depth path ++ (suc t ∷ []))) (suc depth) code) where
    pub ends_won : code ≡ 2 → first (take (depth + 1) next) (steps + 1) ≡ found mode (graph_of n e u b) budget
    ends_won h = won_found y unspent (j.wins h)

    module _ (w : ℕ) (k : w ≡ 2 ^ t) where
      pub tries_on : code ≡ 1 → Searching mode (graph_of n e u b) budget blocks path₀ next untried stops there (left - w) used depth (steps + 1)
      tries_on h = rw k (by_end (j.stays (λ q. omega (arith, h, q)) (λ q. omega (arith, h, q))))
        where
          by_end : (judged mode (graph_of n e u b) longer ≡ lost) ⊎ ((n ≤ suc depth) × (judged mode (graph_of n e u b) longer ≢ won))
              → Searching mode (graph_of n e u b) budget blocks path₀ next untried stops there (left - 2 ^ t) used depth (steps + 1)
          by_end (inl x) = lost_stays y unspent x
          by_end (inr x) = full_stays y unspent x.0 x.1

      pub goes_deeper : code ≡ 0 → (after : List ℕ) (x : ℕ) → x ≡ at next 1 → (mode ≢ 2 → Stopped e u n depth (used + w) x stops after) → length after ≡ 32
          → (fresh : ℕ) → fresh ≡ get_or blocks (depth + 1) 0 - bit_and (get_or blocks (depth + 1) 0) (used + w)
          → Searching mode (graph_of n e u b) budget blocks path₀ next (set untried depth (left - w)) after there fresh (used + w) (depth + 1) (steps + 1)
      goes_deeper z after x q o long fresh f =
          let one : depth + 1 ≡ suc depth = omega arith in
          rw k
          (deepened y unspent (j.goes_on z).1 (j.goes_on z).0 (get_or blocks (depth + 1) 0) fresh (ap (λ (i : ℕ). get_or blocks i 0) one) (rw k at f)
          (set untried depth (left - 2 ^ t)) refl after (rw (k, q) at o) long)

    module _ (z : code ≡ 0) where
      pub room_deeper : depth + 1 < n
      room_deeper = omega (arith, (j.goes_on z).1)

      pub next_fits : depth + 1 < 32
      next_fits = omega (arith, room_deeper, y.choice.state.formed.order_high)
