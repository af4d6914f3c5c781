-- How a beginning is judged: as the start of the walk of every arrangement that extends it.
use Prim.Native.Nat.{ℕ, ◌≤◌, ◌<◌}
use native.Mathlib.Omega.{arith}
use mathlib.Core.Path.{◌≡◌, refl, sym, ap, ◌∙◌}
use mathlib.Core.Logic.{◌↔◌}
use mathlib.Core.List.{List, [], ◌∷◌, ◌++◌, append-nil}
use lib.ListN.{length, length-append}
use Rattle.walk.specs.Walk.{Outcome, won, lost, still_open, and_then, walk}
use Rattle.beginnings.specs.Beginning.{at}
use Rattle.beginnings.specs.Search
use Rattle.beginnings.specs.Certificate.{Stays}
use Rattle.schemes.specs.Scheme.{Scheme, image, Lawful}
use Rattle.schemes.specs.Judging.{walk_of, judgement_of, judging, judged}
use Rattle.walk.proofs.Prefix.{after, walk_prefix, images_alike}
use Rattle.schemes.proofs.Images.{image_alike, image_extended}

-- ---- judgements and outcomes

-- won comes only of a walk that is won
pub of_won : {P : Type 0} (o : Outcome P) → judgement_of o ≡ Search.won → (k : P) × (o ≡ won k)
unfolding judgement_of
of_won (won k) e = (k, refl)
of_won lost e = let z : ◌≡◌ {A = ℕ} 0 1 = cc in absurd (omega arith)
of_won still_open e = let z : ◌≡◌ {A = ℕ} 0 1 = cc in absurd (omega arith)

-- lost only of one that is lost
pub of_lost : {P : Type 0} (o : Outcome P) → judgement_of o ≡ Search.lost → o ≡ lost
unfolding judgement_of
of_lost (won k) e = let z : ◌≡◌ {A = ℕ} 0 1 = cc in absurd (omega arith)
of_lost lost e = refl
of_lost still_open e = let z : ◌≡◌ {A = ℕ} 0 1 = cc in absurd (omega arith)

-- open only of one that is open
pub of_open : {P : Type 0} (o : Outcome P) → judgement_of o ≡ Search.«open» → o ≡ still_open
unfolding judgement_of
of_open (won k) e = let z : ◌≡◌ {A = ℕ} 0 1 = cc in absurd (omega arith)
of_open lost e = let z : ◌≡◌ {A = ℕ} 0 1 = cc in absurd (omega arith)
of_open still_open e = refl

module _ {P : Type 0} {n : ℕ} {s : Scheme P} (lawful : Lawful n s) (v : P → ℕ) where
  -- ---- whole arrangements

  -- the walk depends on the places 1..n alone
  pub walk_alike : (p q : List ℕ) → ((i : ℕ) → 1 ≤ i → i ≤ n → at p i ≡ at q i) → walk_of s v p ≡ walk_of s v q
  unfolding walk_of
  walk_alike p q e = images_alike s.same (image s p) (image s q) s.pairs (image_alike lawful p q e) v

  -- a beginning of length n is judged by its whole walk
  pub judging_whole : (p : List ℕ) → length p ≡ n → judging s v p ≡ walk_of s v p
  unfolding judging walk_of
  judging_whole p e = ap (λ ks. walk s.same (image s p) ks v) (ap s.judged_on e ∙ lawful.whole)

  -- so it is won exactly where that is
  pub whole_won : (p : List ℕ) → length p ≡ n → (judged s v p ≡ Search.won) ↔ ((k : P) × (walk_of s v p ≡ won k))
  unfolding judged judgement_of
  whole_won p e = (
    λ w. let o = of_won (judging s v p) w in (o.0, sym (judging_whole p e) ∙ o.1),
    λ w. rw (judging_whole p e ∙ w.1),
  )

  -- ---- an arrangement that extends a beginning

  -- the walk on which a shorter beginning is judged is the start of the walk of each arrangement that extends it
  pub walk_extends : (b c : List ℕ) → 1 ≤ length b → length b < n → (later : Outcome P) × (walk_of s v (b ++ c) ≡ and_then (judging s v b) later)
  unfolding walk_of judging
  walk_extends b c l h =
      let w = lawful.starts (length b) l h in
      let js : List P = s.judged_on (length b) in
      let img : P → P = image s (b ++ c) in
      let later : Outcome P = walk s.same img w.rest (after s.same img js v) in (
        later,
        ap (λ ks. walk s.same img ks v) w.split ∙ walk_prefix s.same img js w.rest v
            ∙ ap (λ o. and_then o later) (images_alike s.same img (image s b) js (image_extended lawful b c l h) v),
      )

  module _ (block : ℕ → ℕ) where
    -- a beginning is shorter than n, or is extended by nothing
    by_length : {A : Type 0} (b c : List ℕ) → length (b ++ c) ≡ n → (length b < n → A) → (b ++ c ≡ b → A) → A
    by_length b [] e f t = t (append-nil b)
    by_length b (u ∷ c) e f t = f (omega (arith, length-append b (u ∷ c)))

    -- where it is won at k, so is the arrangement
    pub won_extends : (b c : List ℕ) (k : P) → 1 ≤ length b → length (b ++ c) ≡ n → judging s v b ≡ won k → walk_of s v (b ++ c) ≡ won k
    unfolding and_then
    won_extends b c k l e w =
        by_length b c e (λ (h : length b < n). let x = walk_extends b c l h in x.1 ∙ ap (λ o. and_then o x.0) w)
        (λ (q : b ++ c ≡ b). ap (walk_of s v) q ∙ sym (judging_whole b (sym (ap length q) ∙ e)) ∙ w)

    pub lost_extends : (b c : List ℕ) → 1 ≤ length b → length (b ++ c) ≡ n → judging s v b ≡ lost → walk_of s v (b ++ c) ≡ lost
    unfolding and_then
    lost_extends b c l e w =
        by_length b c e (λ (h : length b < n). let x = walk_extends b c l h in x.1 ∙ ap (λ o. and_then o x.0) w)
        (λ (q : b ++ c ≡ b). ap (walk_of s v) q ∙ sym (judging_whole b (sym (ap length q) ∙ e)) ∙ w)

    -- won stays won
    pub won_stays : Stays n block (judged s v) Search.won
    unfolding judged judgement_of
    won_stays b c h t e w =
        let o = of_won (judging s v b) w in
        rw (judging_whole (b ++ c) e ∙ won_extends b c o.0 h.begun e o.1)

    -- lost stays lost
    pub lost_stays : Stays n block (judged s v) Search.lost
    unfolding judged judgement_of
    lost_stays b c h t e w = rw (judging_whole (b ++ c) e ∙ lost_extends b c h.begun e (of_lost (judging s v b) w))
