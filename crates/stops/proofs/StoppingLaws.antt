-- The stops that a search has: as the path changes, and when a vertex more is chosen.
use Prim.Native.Nat.{ℕ, ◌+◌, ◌-◌, ◌≤◌}
use native.Mathlib.Omega.{arith}
use mathlib.Core.Path.{◌≡◌, sym, ap, ◌∙◌}
use mathlib.Core.Logic.{◌≢◌}
use mathlib.Core.List.{List}
use lib.ListN.{length, get_or, set, take}
use lib.Seq.{get_or-set_same, get_or-set_other}
use native.Mathlib.Decide.{ℕ_discrete}
use Rattle.laws.specs.Test.{pick}
use Rattle.laws.specs.Bit.{bit}
use Rattle.laws.specs.Compared.{by_same}
use Rattle.words.specs.Placed.{row}
use Rattle.arrangements.specs.Arrangement.{at}
use Rattle.turns.specs.Turns.{count_by}
use Rattle.stops.specs.Used.{used_mask}
use Rattle.stops.specs.Stops.{one_at, stops_at, Sure, Stopping, Stopped}

module _ (e w : List ℕ) (n : ℕ) where
  -- where (1, k) is known the vertices in use make no difference
  pub stops_sure : (x y u k : ℕ) → Sure w k → stops_at e w x u k ≡ stops_at e w y u k
  unfolding stops_at one_at count_by pick
  stops_sure x y u k s = rw s

  -- before the first vertex is chosen
  pub stopping_begin : (path stops : List ℕ) → get_or stops 0 0 ≡ 0 → Stopping e w n 0 path stops
  stopping_begin path stops z = record { none_first = z; upto = λ k a b. absurd (omega arith); sure = λ l. absurd (omega arith) }

  -- at a smaller depth
  pub stopping_shorter : (d depth : ℕ) (path stops : List ℕ) → d ≤ depth → Stopping e w n depth path stops → Stopping e w n d path stops
  stopping_shorter d depth path stops h s =
      record { none_first = s.none_first; upto = λ k a b. s.upto k a (omega arith); sure = λ l. s.sure (omega arith) }

  module _ (depth : ℕ) (path next stops : List ℕ) (same : (d : ℕ) → d ≤ depth → take d next ≡ take d path) (first : 1 ≤ depth → at next 1 ≡ at path 1) (s : Stopping e w n depth path stops) where
    -- where the path changes only after that depth
    pub stopping_kept : Stopping e w n depth next stops
    stopping_kept =
        record {
          none_first = s.none_first;
          upto = λ k a b. rw (same (k - 1) (omega arith), first (omega arith)) (s.upto k a b);
          sure = λ l k used a b q. rw (first l) (s.sure l k used a b q);
        }

    module _ (used : ℕ) (in_use : used ≡ used_mask (take (depth + 1) next)) (after : List ℕ) (o : Stopped e w n depth used (at next 1) stops after) (long : length stops ≡ 32) (fits : depth + 2 ≤ 32) (deep : depth + 2 ≤ n) where
      Next : Type 0
      Next = Stopping e w n (depth + 1) next after

      -- the first vertex
      at_first : depth ≡ 0 → Next
      unfolding Next
      at_first z =
          record {
            none_first = o.none_first;
            upto = λ k a b.
                let one : k - 1 ≡ depth + 1 = omega arith in
                o.chosen z k a (omega arith) ∙ ap (λ (x : ℕ). stops_at e w x (at next 1) k) (in_use ∙ ap (λ (d : ℕ). used_mask (take d next)) (sym one));
            sure = λ l k x a b q. o.chosen z k a b ∙ stops_sure used x (at next 1) k q;
          }

      -- a later one
      last : (k : ℕ) → k ≡ depth + 2 → (r : List ℕ) → row r (depth + 2) ≡ stops_at e w used (at next 1) (depth + 2) → row r k ≡ stops_at e w (used_mask (take (k - 1) next)) (at next 1) k
      last k q r h =
          let one : depth + 2 - 1 ≡ depth + 1 = omega arith in
          rw q (h ∙ ap (λ (x : ℕ). stops_at e w x (at next 1) (depth + 2)) (in_use ∙ ap (λ (d : ℕ). used_mask (take d next)) (sym one)))

      at_sure : depth ≢ 0 → Sure w (depth + 2) → Next
      unfolding Next
      at_sure d q =
          rw (o.kept d q)
          record {
            none_first = s.none_first;
            upto = λ k a b. by_same k (depth + 2) (λ (z : k ≡ depth + 2). last k z stops (stopping_kept.sure (omega arith) (depth + 2) used (omega arith) deep q)) (λ z. stopping_kept.upto k a (omega arith));
            sure = λ l. stopping_kept.sure (omega arith);
          }

      at_doubt : depth ≢ 0 → ¬ Sure w (depth + 2) → Next
      unfolding Next
      at_doubt d q =
          rw (o.doubtful d q)
          record {
            none_first = get_or-set_other stops (depth + 1) 0 stop 0 (omega arith) ∙ s.none_first;
            upto = λ k a b. by_same k (depth + 2) (λ (z : k ≡ depth + 2). last k z (set stops (depth + 1) stop) made) (λ z. get_or-set_other stops (depth + 1) (k - 1) stop 0 (omega arith) ∙ stopping_kept.upto k a (omega arith));
            sure = λ l k x a b p.
                get_or-set_other stops (depth + 1) (k - 1) stop 0 (λ z. q (let here : k ≡ depth + 2 = omega arith in rw here at p)) ∙ stopping_kept.sure (omega arith) k x a b p;
          }
        where
          stop : ℕ
          stop = stops_at e w used (at next 1) (depth + 2)

          made : row (set stops (depth + 1) stop) (depth + 2) ≡ stop
          made = let one : depth + 2 - 1 ≡ depth + 1 = omega arith in rw one (get_or-set_same stops (depth + 1) stop 0 (omega (arith, long)))

      -- so they are those of the next depth
      pub stopping_more : Stopping e w n (depth + 1) next after
      unfolding Next
      stopping_more = by_same depth 0 at_first (λ d. known d (ℕ_discrete (bit (row w 1) (depth + 2 - 1)) 0))
        where
          known : depth ≢ 0 → Dec (bit (row w 1) (depth + 2 - 1) ≡ 0) → Stopping e w n (depth + 1) next after
          known d (yes q) = at_sure d q
          known d (no q) = at_doubt d q
