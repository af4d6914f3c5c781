-- The pass comes to the entries that stay: of those that are needed to come to the winning pair none can go, of the two at the winning
-- pair one may, and all others go.
use Prim.Native.Nat.{ℕ}
use mathlib.Core.Path.{◌≡◌, refl, sym, ◌∙◌, ap}
use mathlib.Core.Logic.{◌⊎◌, inl, inr, ◌≢◌}
use mathlib.Core.Bool.{Bool, true, false, not, true≢false}
use mathlib.Core.List.{List, [], ◌∷◌, ◌++◌, Memᴰ}
use Rattle.laws.specs.Test.{both, either, pick}
use Rattle.laws.specs.TestLaws.{fails, holds_or_fails, both_first, both_second, both_hold}
use Rattle.laws.specs.Each.{Each}
use Rattle.walk.specs.Clause.{Literal, pair_in}
use Rattle.walk.specs.Meeting.{met, only, literals_of}
use Rattle.walk.proofs.Only.{only_listed}
use Rattle.walk.proofs.Put.{one_or_two}
use Rattle.needed.specs.Enough.{enough, literals, needed}
use Rattle.needed.specs.Settled.{WonWalk, NumberedBy, staying, wins_by, image_may, pair_may, image_goes, pair_goes}
use Rattle.needed.proofs.Kept.{kept_by}
use Rattle.needed.proofs.Staying.{stays_tells, stays_alike, stays_all, stays_met}
use Rattle.needed.proofs.Splits.{not_earlier, SplitAt, those_literals}
use Rattle.needed.proofs.Winning.{keeps, pair_left_out, image_left_out}
use Rattle.needed.proofs.Without.{lost_without_two, lost_without}
use Rattle.needed.proofs.Left.{neither_may, pg, ig, kept_at, kept_test, Trial, parts, tried_in, left, left_others, left_is, goes, left_by}

module _ {P : Type 0} {same before : P → P → Bool} {img src : P → P} {ks : List P} {v : P → ℕ} {w : P} {image_last : Bool} {numbering : List P}
    (trial : Trial same before img src ks v w image_last numbering) where
  abbrev won_w : WonWalk same before img src ks v w
  won_w = trial.walked

  abbrev c : P
  c = pair_in trial.tried

  abbrev ps : SplitAt (only same (met same img ks v) v) numbering trial.lower trial.tried trial.higher
  ps = parts trial

  abbrev pair_drops : Bool
  pair_drops = pg won_w image_last

  abbrev image_drops : Bool
  image_drops = ig won_w image_last

  -- ---- one of the two: w, or its image where the flag holds

  abbrev of_two : Bool → P
  of_two true = img w
  of_two false = w

  -- whether it may go, and whether it does
  abbrev may : Bool → Bool
  may true = image_may same before img src ks v w
  may false = pair_may same before img src ks v w

  abbrev drops : Bool → Bool
  drops true = image_drops
  drops false = pair_drops

  -- left out, its entry does not stay
  left_out : (i : Bool) → keeps won_w (not i) i (of_two i) ≡ false
  left_out true = image_left_out won_w false
  left_out false = pair_left_out won_w false

  gone : (i : Bool) → drops i ≡ true → kept_at won_w image_last (of_two i) ≡ false
  gone true g = ap (λ (b : Bool). keeps won_w pair_drops b (img w)) g ∙ image_left_out won_w pair_drops
  gone false g = ap (λ (a : Bool). keeps won_w a image_drops w) g ∙ pair_left_out won_w image_drops

  -- any other entry stays as it does with none left out
  source_other : (k : P) → Memᴰ k ks → k ≢ img w → src k ≢ w
  source_other k m n f = n (sym (won_w.turned.image_source k m) ∙ ap img f)

  without_alike : (i : Bool) (k : P) → Memᴰ k ks → k ≢ of_two i → keeps won_w (not i) i k ≡ keeps won_w false false k
  without_alike true k m n = stays_alike won_w false true false false k m (inr refl) (inl (source_other k m n))
  without_alike false k m n = stays_alike won_w true false false false k m (inl n) (inr refl)

  kept_alike : (i : Bool) (k : P) → Memᴰ k ks → k ≢ of_two i → (k ≢ of_two (not i)) ⊎ (drops (not i) ≡ false) → kept_at won_w image_last k ≡ keeps won_w false false k
  kept_alike true k m n o = stays_alike won_w pair_drops image_drops false false k m o (inl (source_other k m n))
  kept_alike false k m n (inl o) = stays_alike won_w pair_drops image_drops false false k m (inl n) (inl (source_other k m o))
  kept_alike false k m n (inr g) = stays_alike won_w pair_drops image_drops false false k m (inl n) (inr g)

  -- one that goes is needed to come to w and to win there; where one that is may not go, the walk is not won without it
  goes_needed : (i : Bool) → drops i ≡ true → keeps won_w false false (of_two i) ≡ true
  unfolding image_goes pair_goes image_may pair_may
  goes_needed true g = both_first (keeps won_w false false (img w)) _ (both_first (may true) _ g)
  goes_needed false g = both_first (keeps won_w false false w) _ (both_first (may false) _ g)

  not_won : (i : Bool) → keeps won_w false false (of_two i) ≡ true → may i ≡ false → wins_by same before img src ks v w (not i) i ≡ false
  unfolding image_may pair_may
  not_won true s m = fails (wins_by same before img src ks v w false true) (λ h. true≢false (sym (both_hold (keeps won_w false false (img w)) _ s h) ∙ m))
  not_won false s m = fails (wins_by same before img src ks v w true false) (λ h. true≢false (sym (both_hold (keeps won_w false false w) _ s h) ∙ m))

  -- where neither goes, it may not
  both_stay : (i : Bool) → drops i ≡ false → drops (not i) ≡ false → may i ≡ false
  unfolding image_goes pair_goes
  both_stay true e f = (neither_may _ (may true) (may false) e f).0
  both_stay false e f = (neither_may _ (may true) (may false) f e).1

  -- where the other goes, this one is tried first and may not go, or the other is tried first and so has gone
  other_drops : (i : Bool) → c ≡ of_two i → drops (not i) ≡ true
      → ((may i ≡ false) × (¬ Memᴰ (of_two (not i)) (parts trial).last)) ⊎ (¬ Memᴰ (of_two (not i)) (parts trial).first)
  unfolding image_goes pair_goes both either
  other_drops i q g = at i image_last refl g (ps.split ∙ ap (λ (j : P). ps.first ++ j ∷ ps.last) q)
    where
      at : (i last : Bool) → image_last ≡ last → drops (not i) ≡ true → numbering ≡ ps.first ++ of_two i ∷ ps.last
          → ((may i ≡ false) × (¬ Memᴰ (of_two (not i)) ps.last)) ⊎ (¬ Memᴰ (of_two (not i)) ps.first)
      at true true e g s = inl (fails (may true) (λ h. true≢false (sym (rw (e, h) at (both_second (may false) _ g)))), trial.numbered.image_higher e ps.first ps.last s)
      at true false e g s = inr (not_earlier numbering (img w) w (trial.numbered.pair_higher e) ps.first ps.last s)
      at false true e g s = inr (not_earlier numbering w (img w) (trial.numbered.image_higher e) ps.first ps.last s)
      at false false e g s = inl (fails (may false) (λ h. true≢false (sym (rw (e, h) at (both_second (may true) _ g)))), trial.numbered.pair_higher e ps.first ps.last s)

  -- without both the walk is lost at w
  both_gone : (i : Bool) → keeps won_w false false (of_two i) ≡ true → keeps won_w false false (of_two (not i)) ≡ true
      → Each (λ z. Memᴰ z (literals same img ks v numbering) × (pair_in z ≢ of_two i) × (pair_in z ≢ of_two (not i))) (left trial) → enough same img ks v (left trial) ≡ false
  both_gone true here there part = lost_without_two won_w numbering trial.numbered.all there here (left trial) (λ z m. let h = part z m in (h.0, h.2, h.1))
  both_gone false here there part = lost_without_two won_w numbering trial.numbered.all here there (left trial) part

  -- the one that is kept cannot go
  one_stays : (i : Bool) → c ≡ of_two i → kept_test won_w image_last trial.tried ≡ true → enough same img ks v (left trial) ≡ false
  one_stays i q e = at (holds_or_fails (drops (not i)))
    where
      kept : kept_at won_w image_last (of_two i) ≡ true
      kept = rw q at e

      is_needed : keeps won_w false false (of_two i) ≡ true
      is_needed = rw q at (stays_all won_w c (tried_in trial) pair_drops image_drops e)

      -- where the other has not gone yet, it is the only one that is missing when it is tried
      alone : may i ≡ false → ((k : P) → Memᴰ k ps.last → (k ≢ of_two (not i)) ⊎ (drops (not i) ≡ false)) → enough same img ks v (left trial) ≡ false
      alone m other =
          left_by trial (not i) i (rw q (left_out i)) (λ k mk n. without_alike i k mk (λ p. n (p ∙ sym q)))
          (λ k mk l s.
          let n : k ≢ of_two i = λ p. true≢false (sym s ∙ ap (keeps won_w (not i) i) p ∙ left_out i) in
          kept_alike i k mk n (other k l) ∙ sym (without_alike i k mk n) ∙ s)
          ∙ not_won i is_needed m

      at : (drops (not i) ≡ true) ⊎ (drops (not i) ≡ false) → enough same img ks v (left trial) ≡ false
      at (inr g) = alone (both_stay i (fails (drops i) (λ h. true≢false (sym kept ∙ gone i h))) g) (λ k l. inr g)
      at (inl g) = go (other_drops i q g)
        where
          go : ((may i ≡ false) × (¬ Memᴰ (of_two (not i)) ps.last)) ⊎ (¬ Memᴰ (of_two (not i)) ps.first) → enough same img ks v (left trial) ≡ false
          go (inl h) = alone h.0 (λ k l. inl (λ p. h.1 (rw p at l)))
          go (inr n) = both_gone i is_needed (goes_needed (not i) g) (λ z m. let h = left_others trial z m in (h.0, λ p. h.1 (p ∙ sym q), λ p. missing z p (left_is trial z m)))
            where
              missing : (z : Literal P) → pair_in z ≡ of_two (not i) → Memᴰ (pair_in z) ps.first ⊎ (kept_test won_w image_last z ≡ true) → ⊥
              missing z p (inl l) = n (rw p at l)
              missing z p (inr s) = true≢false (sym s ∙ ap (kept_at won_w image_last) p ∙ gone (not i) g)

  -- so each literal goes exactly where its entry does not stay
  tried_test : enough same img ks v (left trial) ≡ not (kept_test won_w image_last trial.tried)
  tried_test = at (kept_test won_w image_last trial.tried) refl
    where
      at : (s : Bool) → kept_test won_w image_last trial.tried ≡ s → enough same img ks v (left trial) ≡ not s
      at false e = goes trial e
      at true e = side (one_or_two won_w.turned.tells c w) (one_or_two won_w.turned.tells c (img w))
        where
          side : (c ≡ w) ⊎ (c ≢ w) → (c ≡ img w) ⊎ (c ≢ img w) → enough same img ks v (left trial) ≡ false
          side (inl q) r = one_stays false q e
          side (inr n) (inl q) = one_stays true q e
          side (inr n) (inr o) = lost_without won_w numbering trial.numbered.all c (tried_in trial) n o ((stays_tells won_w pair_drops image_drops c).0 e) (left trial) (left_others trial)

module _ {P : Type 0} {same before : P → P → Bool} {img src : P → P} {ks : List P} {v : P → ℕ} {w : P} (won_w : WonWalk same before img src ks v w)
    {image_last : Bool} {numbering : List P} (nums : NumberedBy img ks w image_last numbering) where
  -- the literals that are kept are those of the entries that stay
  pub needed_stays : needed same img ks v numbering ≡ literals_of (staying before src v w (pair_goes same before img src ks v w image_last) (image_goes same before img src ks v w image_last)) numbering
  unfolding needed literals staying
  needed_stays =
      kept_by (enough same img ks v) (kept_test won_w image_last) [] (literals same img ks v numbering)
      (λ ls l rs e. tried_test record { walked = won_w; numbered = nums; lower = ls; tried = l; higher = rs; split = e })
      ∙ those_literals (only same (met same img ks v) v) (staying before src v w (pg won_w image_last) (ig won_w image_last)) (kept_at won_w image_last) numbering (λ k m. alike k (nums.inside k m) (kept_at won_w image_last k) refl)
    where
      alike : (k : P) → Memᴰ k ks → (s : Bool) → kept_at won_w image_last k ≡ s → pick s (v k) 2 ≡ pick s (only same (met same img ks v) v k) 2
      alike k m true e =
          unfold pick in sym (only_listed won_w.turned.tells (met same img ks v) v k (stays_met won_w k m ((stays_tells won_w (pg won_w image_last) (ig won_w image_last) k).0 e)))
      alike k m false e = unfold pick in refl
