-- What is left when a literal is tried, by the entries that stay.
use Prim.Native.Nat.{ℕ, ◌≤◌}
use mathlib.Core.Path.{◌≡◌, refl, sym, ◌∙◌, ap, subst}
use mathlib.Core.Logic.{◌⊎◌, inl, inr, ◌≢◌}
use mathlib.Core.Bool.{Bool, true, false, not, true≢false}
use mathlib.Core.List.Memᴰ
use mathlib.Core.List.{List, ◌∷◌, ◌++◌, map, Memᴰ}
use Rattle.laws.specs.Test.{both, either}
use Rattle.laws.specs.TestLaws.{same_test, both_first, both_second}
use Rattle.laws.specs.ListLaws.{NoRepeats}
use Rattle.walk.specs.Clause.{Literal, pair_in}
use Rattle.walk.specs.Meeting.{met, listed, only}
use Rattle.walk.proofs.Free.{not_before}
use Rattle.walk.proofs.Literals.{literals_in_words}
use Rattle.needed.specs.Kept.{those}
use Rattle.needed.specs.Enough.{enough, literals}
use Rattle.needed.specs.Settled.{Turned, WonWalk, NumberedBy, driven_to, settled, wins_by, image_may, pair_may, image_goes, pair_goes}
use Rattle.needed.proofs.Kept.{those_are}
use Rattle.needed.proofs.Enough.{false_known, enough_more}
use Rattle.needed.proofs.Settled.{settled_known}
use Rattle.needed.proofs.Staying.{stays_tells, stays_met, stays_known, other_stays}
use Rattle.needed.proofs.Splits.{not_later, SplitAt, literals_split}
use Rattle.needed.proofs.Winning.{keeps, all_win}
use Rattle.needed.proofs.Without.{enough_by, has_pair, is_literal, literal_of}

-- of two that may go, never both do; and where neither goes, neither may
not_both_go : (last image pair : Bool) → both image (either last (not pair)) ≡ true → both pair (not (both last image)) ≡ true → ⊥
unfolding both either
not_both_go last false pair e f = true≢false (sym e)
not_both_go last true false e f = true≢false (sym f)
not_both_go true true true e f = true≢false (sym f)
not_both_go false true true e f = true≢false (sym e)

pub neither_may : (last image pair : Bool) → both image (either last (not pair)) ≡ false → both pair (not (both last image)) ≡ false → (image ≡ false) × (pair ≡ false)
unfolding both either
neither_may last false false e f = (refl, refl)
neither_may true true pair e f = absurd (true≢false e)
neither_may false true true e f = absurd (true≢false f)
neither_may false true false e f = absurd (true≢false e)
neither_may true false true e f = absurd (true≢false f)
neither_may false false true e f = absurd (true≢false f)

module _ {P : Type 0} {same before : P → P → Bool} {img src : P → P} {ks : List P} {v : P → ℕ} {w : P} (won_w : WonWalk same before img src ks v w) (image_last : Bool) where
  -- whether what is at w, or at its image, goes
  abbrev pub pg : Bool
  pg = pair_goes same before img src ks v w image_last

  abbrev pub ig : Bool
  ig = image_goes same before img src ks v w image_last

  -- the entries that stay then, and the literals of these
  abbrev pub kept_at : P → Bool
  kept_at = keeps won_w pg ig

  abbrev pub kept_test : Literal P → Bool
  kept_test l = kept_at (pair_in l)

  -- by these the walk is won
  kept_win : wins_by same before img src ks v w pg ig ≡ true
  unfolding image_goes pair_goes image_may pair_may
  kept_win = at ig pg refl refl
    where
      at : (i p : Bool) → ig ≡ i → pg ≡ p → wins_by same before img src ks v w p i ≡ true
      at true true e f = absurd (not_both_go _ (image_may same before img src ks v w) (pair_may same before img src ks v w) e f)
      at true false e f = both_second (keeps won_w false false (img w)) _ (both_first (image_may same before img src ks v w) _ e)
      at false true e f = both_second (keeps won_w false false w) _ (both_first (pair_may same before img src ks v w) _ f)
      at false false e f = all_win won_w

-- a literal of a won walk when it is tried, after those with higher numbers and before those with lower ones
pub record Trial {P : Type 0} (same before : P → P → Bool) (img src : P → P) (ks : List P) (v : P → ℕ) (w : P) (image_last : Bool) (numbering : List P) : Type 0 where
  pub walked : WonWalk same before img src ks v w
  pub numbered : NumberedBy img ks w image_last numbering
  pub lower : List (Literal P)
  pub tried : Literal P
  pub higher : List (Literal P)
  pub split : literals same img ks v numbering ≡ lower ++ tried ∷ higher

module _ {P : Type 0} {same before : P → P → Bool} {img src : P → P} {ks : List P} {v : P → ℕ} {w : P} {image_last : Bool} {numbering : List P}
    (trial : Trial same before img src ks v w image_last numbering) where
  abbrev won_w : WonWalk same before img src ks v w
  won_w = trial.walked

  abbrev t : Turned same before img src ks
  t = won_w.turned

  abbrev nums : NumberedBy img ks w image_last numbering
  nums = trial.numbered

  abbrev c : P
  c = pair_in trial.tried

  abbrev lits : List (Literal P)
  lits = literals same img ks v numbering

  abbrev test : Literal P → Bool
  test = kept_test won_w image_last

  -- ---- the literals before and after it

  pub parts : SplitAt (only same (met same img ks v) v) numbering trial.lower trial.tried trial.higher
  parts = literals_split (only same (met same img ks v) v) numbering trial.lower trial.tried trial.higher (unfold literals in trial.split)

  pub tried_in : Memᴰ (pair_in trial.tried) ks
  tried_in = nums.inside c (rw parts.split (Memᴰ.append_right parts.first (Memᴰ.head refl)))

  in_first : (z : Literal P) → Memᴰ z trial.lower → Memᴰ (pair_in z) parts.first
  in_first z m = ((literals_in_words (only same (met same img ks v) v) parts.first z).0 (subst (λ (zs : List (Literal P)). Memᴰ z zs) parts.of_first m)).0

  in_last : (z : Literal P) → Memᴰ z trial.higher → Memᴰ (pair_in z) parts.last
  in_last z m = ((literals_in_words (only same (met same img ks v) v) parts.last z).0 (subst (λ (zs : List (Literal P)). Memᴰ z zs) parts.of_last m)).0

  -- the others are of other pairs
  other_pair : (z : Literal P) → Memᴰ z trial.lower ⊎ Memᴰ z trial.higher → pair_in z ≢ c
  other_pair z (inl m) e = not_before parts.first c parts.last (subst NoRepeats parts.split nums.once) (subst (λ (j : P). Memᴰ j parts.first) e (in_first z m))
  other_pair z (inr m) e = not_later parts.first c parts.last (subst NoRepeats parts.split nums.once) (subst (λ (j : P). Memᴰ j parts.last) e (in_last z m))

  other_literal : (z : Literal P) → Memᴰ z lits → pair_in z ≢ c → Memᴰ z trial.lower ⊎ Memᴰ z trial.higher
  other_literal z m n = at (Memᴰ.append_cases trial.lower (subst (λ (zs : List (Literal P)). Memᴰ z zs) trial.split m))
    where
      at : Memᴰ z trial.lower ⊎ Memᴰ z (trial.tried ∷ trial.higher) → Memᴰ z trial.lower ⊎ Memᴰ z trial.higher
      at (inl i) = inl i
      at (inr i) = go (Memᴰ.cases_cons i)
        where
          go : (z ≡ trial.tried) ⊎ Memᴰ z trial.higher → Memᴰ z trial.lower ⊎ Memᴰ z trial.higher
          go (inl e) = absurd (n (ap pair_in e))
          go (inr j) = inr j

  -- ---- what is left when it is tried

  abbrev pub left : List (Literal P)
  left = trial.lower ++ those (kept_test trial.walked image_last) trial.higher

  is_left : (z : Literal P) → test z ≡ true → Memᴰ z trial.lower ⊎ Memᴰ z trial.higher → Memᴰ z left
  is_left z k (inl i) = Memᴰ.append_left (those test trial.higher) i
  is_left z k (inr i) = Memᴰ.append_right trial.lower ((those_are test trial.higher z).1 (i, k))

  -- literals of other pairs, all that stand before it and those after it that are kept
  pub left_others : (z : Literal P) → Memᴰ z left → Memᴰ z (literals same img ks v numbering) × (pair_in z ≢ pair_in trial.tried)
  left_others z m = at (Memᴰ.append_cases trial.lower m)
    where
      at : Memᴰ z trial.lower ⊎ Memᴰ z (those test trial.higher) → Memᴰ z lits × (pair_in z ≢ c)
      at (inl i) = (rw trial.split (Memᴰ.append_left (trial.tried ∷ trial.higher) i), other_pair z (inl i))
      at (inr i) =
          let h = ((those_are test trial.higher z).0 i).0 in
          (rw trial.split (Memᴰ.append_right trial.lower (Memᴰ.tail h)), other_pair z (inr h))

  pub left_is : (z : Literal P) → Memᴰ z left → Memᴰ (pair_in z) parts.first ⊎ (kept_test trial.walked image_last z ≡ true)
  left_is z m = at (Memᴰ.append_cases trial.lower m)
    where
      at : Memᴰ z trial.lower ⊎ Memᴰ z (those test trial.higher) → Memᴰ (pair_in z) parts.first ⊎ (test z ≡ true)
      at (inl i) = inl (in_first z i)
      at (inr i) = inr ((those_are test trial.higher z).0 i).1

  -- one that stays has its literal
  stays_literal : (a b : Bool) (k : P) → Memᴰ k ks → keeps won_w a b k ≡ true → (l : Literal P) × Memᴰ l lits × (pair_in l ≡ k)
  stays_literal a b k m e = let s = (stays_tells won_w a b k).0 e in literal_of won_w numbering nums.all k m (stays_met won_w k m s) (stays_known won_w k m s)

  those_win : enough same img ks v (those test lits) ≡ true
  those_win =
      enough_by won_w (those test lits) (pg won_w image_last) (ig won_w image_last)
      (λ k m n.
      same_test (listed same k (map pair_in (those test lits))) (kept_at won_w image_last k)
      (λ e. let l = (has_pair won_w (those test lits) k).0 e in rw (← l.2) ((those_are test lits l.0).0 l.1).1)
      (λ e. let l = stays_literal (pg won_w image_last) (ig won_w image_last) k m e in (has_pair won_w (those test lits) k).1 (l.0, (those_are test lits l.0).1 (l.1, rw l.2 e), l.2)))
      ∙ kept_win won_w image_last

  -- one that does not stay goes
  pub goes : kept_test trial.walked image_last trial.tried ≡ false → enough same img ks v left ≡ true
  goes e =
      enough_more t.tells (λ k. Memᴰ k ks) img ks (λ k i. i) t.image_in v (those test lits) left
      (λ z m.
      let h = (those_are test lits z).0 m in
      is_left z h.1 (other_literal z h.0 (λ q. true≢false (sym h.1 ∙ ap (kept_at won_w image_last) q ∙ e)))) those_win

  -- what is left has the entries that stay with that of the literal left out, where all of these that have higher numbers are kept
  pub left_by : (a b : Bool) → keeps trial.walked a b (pair_in trial.tried) ≡ false
      → ((k : P) → Memᴰ k ks → k ≢ pair_in trial.tried → keeps trial.walked a b k ≡ keeps trial.walked false false k)
      → ((k : P) → Memᴰ k ks → Memᴰ k parts.last → keeps trial.walked a b k ≡ true → kept_at trial.walked image_last k ≡ true)
      → enough same img ks v left ≡ wins_by same before img src ks v w a b
  left_by a b out alike kept =
      enough_by won_w left a b
      (λ k m n. same_test (listed same k (map pair_in left)) (keeps won_w a b k) (λ e. to_keeps k m n ((has_pair won_w left k).0 e)) (λ e. (has_pair won_w left k).1 (from_keeps k m e)))
    where
      to_keeps : (k : P) → Memᴰ k ks → settled before src v k ≢ driven_to before src k → (z : Literal P) × Memᴰ z left × (pair_in z ≡ k) → keeps won_w a b k ≡ true
      to_keeps k m n (z, i, e) =
          let other = left_others z i in
          let h = (is_literal won_w numbering nums.all z).0 other.0 in
          let known : v k ≤ 1 = rw e at (false_known v z h.2) in
          alike k m (λ q. other.1 (e ∙ q)) ∙ other_stays won_w k m (rw e at h.1) known (λ q. n (settled_known before src v k known ∙ q))

      from_keeps : (k : P) → Memᴰ k ks → keeps won_w a b k ≡ true → (z : Literal P) × Memᴰ z left × (pair_in z ≡ k)
      from_keeps k m e =
          let z = stays_literal a b k m e in
          (z.0, at z.0 z.2 (other_literal z.0 z.1 (λ q. true≢false (sym e ∙ ap (keeps won_w a b) (sym z.2 ∙ q) ∙ out))), z.2)
        where
          at : (z : Literal P) → pair_in z ≡ k → Memᴰ z trial.lower ⊎ Memᴰ z trial.higher → Memᴰ z left
          at z q (inl i) = Memᴰ.append_left (those test trial.higher) i
          at z q (inr i) = is_left z (rw q (kept k m (rw q at (in_last z i)) e)) (inr i)
