-- The search finds the first certificate: where won and lost stay with the arrangements that extend a beginning, the first won beginning, completed, is the certificate that comes first in dictionary order.
use Prim.Native.Nat.{ℕ, ◌-◌, ◌≤◌}
use native.Mathlib.Omega.{arith}
use mathlib.Core.Path.{◌≡◌, refl, sym, ◌∙◌, ap}
use mathlib.Core.Logic.{◌⊎◌, inl, inr, ◌≢◌, ⊎_elim}
use mathlib.Core.List.Memᴰ
use mathlib.Core.List.{List, [], ◌∷◌, ◌++◌, append-nil, Memᴰ}
use lib.ListN.{length, length-append}
use lib.Seq.{append_snoc, take-append_seam}
use Rattle.beginnings.specs.Order.{Before}
use Rattle.beginnings.specs.Search.{Judgement, won, lost, «open», IsReached, NoneWon, FirstWon, reached, steps_needed, none, first, searched}
use Rattle.beginnings.specs.Certificate.{Certificate, Stays, completed}
use Rattle.beginnings.proofs.Order.{before_how, rising_end}
use Rattle.beginnings.proofs.Follows.{Follows, beginning_follows}
use Rattle.beginnings.proofs.Subtree.{Reaches}
use Rattle.beginnings.proofs.Reached.{is_reached_lem, reached_sound, reached_complete, reached_rises}
use Rattle.beginnings.proofs.Completed.{completed_whole, completed_least}
use Rattle.beginnings.proofs.Count.{none_or_first}
use Rattle.beginnings.proofs.Steps.{within_none, within_first, none_exactly, first_exactly}

module _ (n : ℕ) (block : ℕ → ℕ) (judged : List ℕ → Judgement) where
  -- c from p up to where it is first not open
  record Leaf (p c : List ℕ) : Type 0 where
    part : List ℕ
    rest : List ℕ
    joined : c ≡ part ++ rest
    reaches : Reaches n block judged p part
    closed : judged (p ++ part) ≢ «open»

  -- a walk that ends won has a first one that is not open
  leaf : (p c : List ℕ) → Follows n block p c → judged (p ++ c) ≡ won → Leaf p c
  leaf p [] f w = record { part = []; rest = []; joined = refl; reaches = tt; closed = λ q. let z : ◌≡◌ {A = ℕ} 0 1 = cc in omega arith }
  leaf p (v ∷ c) f w = go (judged p) refl (leaf (p ++ (v ∷ [])) c f.1 (rw (append_snoc p v c) w))
    where
      stop : judged p ≢ «open» → Leaf p (v ∷ c)
      stop ne = record { part = []; rest = v ∷ c; joined = refl; reaches = tt; closed = rw append-nil ne }

      go : (j : Judgement) → judged p ≡ j → Leaf (p ++ (v ∷ [])) c → Leaf p (v ∷ c)
      go won e below = stop (λ q. let z : ◌≡◌ {A = ℕ} 0 1 = cc (q, e) in omega arith)
      go lost e below = stop (λ q. let z : ◌≡◌ {A = ℕ} 0 1 = cc (q, e) in omega arith)
      go «open» e below =
          record {
            part = v ∷ below.part;
            rest = below.rest;
            joined = ap (λ (l : List ℕ). v ∷ l) below.joined;
            reaches = (e, f.0, below.reaches);
            closed = rw (append_snoc p v below.part) at below.closed;
          }

  -- a reached one has no won one among its shorter beginnings
  not_below_won : (b : List ℕ) (v : ℕ) (d : List ℕ) → 1 ≤ length b → judged b ≡ won → IsReached n block judged (b ++ (v ∷ d)) → ⊥
  not_below_won b v d begun w r =
      let o : judged b ≡ «open» = rw (take-append_seam b (v ∷ d)) at (r.shorter_open (length b) begun (omega (arith, length-append b (v ∷ d)))) in
      let z : ◌≡◌ {A = ℕ} 0 1 = cc (o, w) in
      omega arith

  -- the first won one comes before every other reached and won one
  first_before : (b d : List ℕ) → FirstWon judged (reached n block judged) b → IsReached n block judged d → judged d ≡ won → (d ≡ b) ⊎ Before b d
  first_before b d f r w =
      ⊎_elim (λ (m : Memᴰ d f.before). absurd (f.none_before d m w))
      (λ (m : Memᴰ d (b ∷ f.after)). ⊎_elim (λ (e : d ≡ b). inl e) (λ (k : Memᴰ d f.after). inr ((rising_end f.before (b ∷ f.after) (rw f.split at (reached_rises n block judged))).0 d k)) (Memᴰ.cases_cons m))
      (Memᴰ.append_cases f.before (rw f.split at (reached_complete n block judged d r)))

  -- it is reached
  first_reached : (b : List ℕ) → FirstWon judged (reached n block judged) b → IsReached n block judged b
  first_reached b f = reached_sound n block judged b (rw f.split (Memᴰ.append_right f.before (Memᴰ.head refl)))

  -- what the search finds is reached and won
  pub found_reached : (budget : ℕ) (b : List ℕ) (s : ℕ) → searched n block judged budget ≡ first b s → IsReached n block judged b × (judged b ≡ won)
  found_reached budget b s e = let f = ((first_exactly n block judged budget b s).0 e).2 in (first_reached b f, f.wins)

  module _ (won_stays : Stays n block judged won) (lost_stays : Stays n block judged lost) where
    -- ---- a certificate has a reached and won beginning

    record WonLeaf (p : List ℕ) : Type 0 where
      start : List ℕ
      rest : List ℕ
      joined : p ≡ start ++ rest
      is_reached : IsReached n block judged start
      wins : judged start ≡ won

    won_leaf : (p : List ℕ) → Certificate n block judged p → WonLeaf p
    won_leaf [] k = absurd (omega (arith, k.beginning.begun))
    won_leaf (v ∷ c) k = from (beginning_follows n block (v ∷ c) k.beginning)
      where
        closed_at : (l : Leaf (v ∷ []) c) → IsReached n block judged (v ∷ l.part) → WonLeaf (v ∷ c)
        closed_at l r = go (judged (v ∷ l.part)) refl
          where
            whole : v ∷ c ≡ (v ∷ l.part) ++ l.rest
            whole = ap (λ (x : List ℕ). v ∷ x) l.joined

            go : (j : Judgement) → judged (v ∷ l.part) ≡ j → WonLeaf (v ∷ c)
            go won e = record { start = v ∷ l.part; rest = l.rest; joined = whole; is_reached = r; wins = e }
            go lost e =
                let q : judged (v ∷ c) ≡ lost = rw whole (lost_stays (v ∷ l.part) l.rest r.beginning (rw whole at k.beginning) (sym (ap length whole) ∙ k.whole) e) in
                let z : ◌≡◌ {A = ℕ} 0 1 = cc (q, k.wins) in
                absurd (omega arith)
            go «open» e = absurd (l.closed e)

        from : Follows n block [] (v ∷ c) → WonLeaf (v ∷ c)
        from f =
            let l : Leaf (v ∷ []) c = leaf (v ∷ []) c f.1 k.wins in
            closed_at l (is_reached_lem n block judged v l.part f.0 (omega (arith, k.beginning.fits, ap length l.joined, length-append l.part l.rest)) l.reaches)

    -- ---- the first won beginning, completed

    -- it is a certificate
    completed_wins : (b : List ℕ) → FirstWon judged (reached n block judged) b → Certificate n block judged (completed n block (n - length b) b)
    completed_wins b f =
        let r = first_reached b f in
        let c = completed_whole n block b r.beginning in
        record { beginning = c.beginning; whole = c.whole; wins = rw c.extends (won_stays b c.part r.beginning (rw c.extends at c.beginning) (rw c.extends at c.whole) f.wins) }

    -- and the first of all
    completed_first : (b : List ℕ) → FirstWon judged (reached n block judged) b → (p : List ℕ) → Certificate n block judged p → (p ≡ completed n block (n - length b) b) ⊎ Before (completed n block (n - length b) b) p
    completed_first b f p k = go (won_leaf p k)
      where
        Later : List ℕ → Type 0
        Later x = (x ≡ completed n block (n - length b) b) ⊎ Before (completed n block (n - length b) b) x

        r : IsReached n block judged b
        r = first_reached b f

        below : (c : List ℕ) → p ≡ b ++ c → Later p
        below c e = rw e (completed_least n block b c r.beginning (rw e at k.beginning) (rw e at k.whole))

        apart : (l : WonLeaf p) → Before b l.start → Later p
        apart l h =
            ⊎_elim (λ (x : (v : ℕ) × (d : List ℕ) × (l.start ≡ b ++ (v ∷ d))). absurd (not_below_won b x.0 x.1 r.beginning.begun f.wins (rw x.2 at l.is_reached)))
            (λ (x : (c y : List ℕ) → Before (b ++ c) (l.start ++ y)). let c = completed_whole n block b r.beginning in inr (rw (l.joined, c.extends) (x c.part l.rest)))
            (before_how b l.start h)

        go : WonLeaf p → Later p
        go l = ⊎_elim (λ (e : l.start ≡ b). below l.rest (rw e at l.joined)) (λ (h : Before b l.start). apart l h) (first_before b l.start f l.is_reached l.wins)

    -- ---- what the search tells

    -- none: there is no certificate
    pub none_certified : (budget s : ℕ) → searched n block judged budget ≡ none s → (p : List ℕ) → Certificate n block judged p → ⊥
    none_certified budget s e p k =
        let l = won_leaf p k in
        ((none_exactly n block judged budget s).0 e).2 l.start (reached_complete n block judged l.start l.is_reached) l.wins

    -- a won beginning: completed, it is a certificate
    pub first_certificate : (budget : ℕ) (b : List ℕ) (s : ℕ) → searched n block judged budget ≡ first b s → Certificate n block judged (completed n block (n - length b) b)
    first_certificate budget b s e = completed_wins b ((first_exactly n block judged budget b s).0 e).2

    -- and every certificate is it or comes after it
    pub first_of_certificates : (budget : ℕ) (b : List ℕ) (s : ℕ) → searched n block judged budget ≡ first b s → (p : List ℕ) → Certificate n block judged p → (p ≡ completed n block (n - length b) b) ⊎ Before (completed n block (n - length b) b) p
    first_of_certificates budget b s e = completed_first b ((first_exactly n block judged budget b s).0 e).2

    -- where there is a certificate and the budget reaches, a won beginning is found
    pub certificate_found : (budget : ℕ) (p : List ℕ) → Certificate n block judged p → steps_needed n block judged ≤ budget → (b : List ℕ) × (searched n block judged budget ≡ first b (steps_needed n block judged))
    certificate_found budget p k l =
        ⊎_elim (λ (h : NoneWon judged (reached n block judged)). absurd (none_certified budget (steps_needed n block judged) (within_none n block judged budget h l) p k))
        (λ (h : (b : List ℕ) × FirstWon judged (reached n block judged) b). (h.0, within_first n block judged budget h.0 h.1 l))
        (none_or_first judged (reached n block judged))

    -- where there is none and the budget reaches, none is told
    pub none_found : (budget : ℕ) → ((p : List ℕ) → Certificate n block judged p → ⊥) → steps_needed n block judged ≤ budget → searched n block judged budget ≡ none (steps_needed n block judged)
    none_found budget h l =
        ⊎_elim (λ (k : NoneWon judged (reached n block judged)). within_none n block judged budget k l)
        (λ (k : (b : List ℕ) × FirstWon judged (reached n block judged) b). absurd (h (completed n block (n - length k.0) k.0) (completed_wins k.0 k.1)))
        (none_or_first judged (reached n block judged))
