-- What trying a vertex comes to, one law for each answer; and back, how the longer beginning is judged.
use Prim.Native.Nat.{ℕ, ◌+◌, ◌≤◌, ◌<◌}
use native.Mathlib.Omega.{arith}
use mathlib.Core.Path.{◌≡◌, refl, sym, ap, ◌∙◌}
use mathlib.Core.Logic.{◌≢◌, ◌⊎◌, inl, inr}
use mathlib.Core.List.{List}
use lib.Dec.{eqb, ltb}
use borrow.Author.Tests.{eq-eqb, ne_eqb, lt-ltb, le-ltb}
use Rattle.laws.specs.Test.{pick}
use Rattle.laws.specs.Compared.{by_same, by_below}
use Rattle.beginnings.specs.Search.{Judgement}
use Rattle.beginnings.specs.Search
use Rattle.graph.specs.declared.Graph.{Graph}
use Rattle.arrangements.specs.Arrangement.{at}
use Rattle.turns.proofs.LastJudged.{judged_by_rows}
use Rattle.stops.specs.Stops.{one_at}
use Rattle.stops.specs.Tried.{tried_by}
use Rattle.stops.proofs.StopLaws.{ByStop}

-- at a stop
tried_stop : (p : List ℕ) (stop used k n rows first ones doubts one : ℕ) → stop ≡ 1 → first ≡ at p 1 → one ≡ one_at ones doubts used first k → one + 1 ≡ tried_by stop (one_at ones doubts used (at p 1) k) rows k n
unfolding tried_by pick
tried_stop p stop used k n rows first ones doubts one s pf h = rw (eq-eqb stop 1 s) (ap (λ (x : ℕ). x + 1) (h ∙ rw pf))

module _ (p : List ℕ) (stop used k n rows first ones doubts one : ℕ) (s : stop ≡ 1) (pf : first ≡ at p 1) (h : one ≡ one_at ones doubts used first k) where
  pub stop_won : one ≡ 1 → 2 ≡ tried_by stop (one_at ones doubts used (at p 1) k) rows k n
  stop_won e = let c : 2 ≡ one + 1 = omega arith in c ∙ tried_stop p stop used k n rows first ones doubts one s pf h

  pub stop_lost : one ≤ 1 → (one ≡ 1 → ⊥) → 1 ≡ tried_by stop (one_at ones doubts used (at p 1) k) rows k n
  stop_lost l d = let c : 1 ≡ one + 1 = omega arith in c ∙ tried_stop p stop used k n rows first ones doubts one s pf h

module _ (stop one rows k n : ℕ) (d : stop ≡ 1 → ⊥) where
  -- elsewhere, with places left
  pub tried_open : k < n → 0 ≡ tried_by stop one rows k n
  unfolding tried_by pick
  tried_open l = rw (ne_eqb stop 1 d, lt-ltb k n l)

  -- with none left
  module _ (l : n ≤ k) (c : ℕ) (h : c ≡ rows) where
    pub tried_won : c ≡ 2 → 2 ≡ tried_by stop one rows k n
    unfolding tried_by pick
    tried_won e = rw (ne_eqb stop 1 d, le-ltb k n l, eq-eqb rows 2 (sym h ∙ e))

    pub tried_not : (c ≡ 2 → ⊥) → 1 ≡ tried_by stop one rows k n
    unfolding tried_by pick
    tried_not e = rw (ne_eqb stop 1 d, le-ltb k n l, ne_eqb rows 2 (λ z. e (h ∙ z)))

-- ---- and back

-- the judgement of a beginning of length k by its code: it is open, and has places left; it is won; else it is lost or has none left
pub record Judges (n : ℕ) (judgement : Judgement) (k code : ℕ) : Type 0 where
  pub wins : code ≡ 2 → judgement ≡ Search.won
  pub goes_on : code ≡ 0 → (judgement ≡ Search.«open») × (k < n)
  pub stays : code ≢ 2 → code ≢ 0 → (judgement ≡ Search.lost) ⊎ ((n ≤ k) × (judgement ≢ Search.won))

module _ (g : Graph) (b : List ℕ) (k stop one rows : ℕ) (small : one ≤ 1) (by : ByStop g b k stop one rows) where
  at_stop : stop ≡ 1 → Judges g.order (judged_by_rows g b) k (one + 1)
  at_stop s =
      record {
        wins = λ e. by.stop_wins s (omega arith);
        goes_on = λ e. absurd (omega arith);
        stays = λ e z. inl (by.stop_loses s (λ q. e (omega arith)));
      }

  past_stop : stop ≢ 1 → Judges g.order (judged_by_rows g b) k (pick (ltb k g.order) 0 (pick (eqb rows 2) 2 1))
  unfolding pick
  past_stop d =
      by_below k g.order
      (λ (l : k < g.order).
      rw (lt-ltb k g.order l) record { wins = λ e. absurd (omega arith); goes_on = λ e. (by.short_open d l, l); stays = λ e z. absurd (z refl) })
      (λ (l : g.order ≤ k).
      rw (le-ltb k g.order l)
      (by_same rows 2
      (λ (r : rows ≡ 2). rw (eq-eqb rows 2 r) record { wins = λ e. by.full_wins d l r; goes_on = λ e. absurd (omega arith); stays = λ e z. absurd (e refl) })
      (λ (r : rows ≢ 2).
      rw (ne_eqb rows 2 r) record { wins = λ e. absurd (omega arith); goes_on = λ e. absurd (omega arith); stays = λ e z. inr (l, by.full_fails d l r) })))

  -- how it is judged
  pub tried_judges : Judges g.order (judged_by_rows g b) k (tried_by stop one rows k g.order)
  unfolding tried_by pick
  tried_judges = by_same stop 1 (λ (s : stop ≡ 1). rw (eq-eqb stop 1 s) (at_stop s)) (λ (d : stop ≢ 1). rw (ne_eqb stop 1 d) (past_stop d))
