-- The entries that are needed: they are met and known, an unknown one there would be driven to the other value, and there are no others.
use Prim.Native.Nat.{ℕ, ◌-◌, ◌≤◌}
use native.Mathlib.Omega.{arith}
use mathlib.Core.Path.{◌≡◌, refl, sym, ◌∙◌, ap}
use mathlib.Core.Logic.{◌⊎◌, inl, inr, ◌≢◌, ◌↔◌}
use mathlib.Core.Bool.{Bool, true, false, not, true≢false, false≢true}
use mathlib.Core.List.Memᴰ
use mathlib.Core.List.{List, [], ◌∷◌, ◌++◌, append_assoc, Memᴰ}
use lib.Dec.{eqb}
use borrow.Author.Tests.{eqb-true, eq-eqb}
use Rattle.laws.specs.Test.{both, either, pick}
use Rattle.laws.specs.TestLaws.{fails, holds_or_fails, both_first, both_second, both_hold, either_first, either_second, one_holds}
use Rattle.laws.specs.ListLaws.{mem_split}
use Rattle.walk.specs.Meeting.{met, with_images}
use Rattle.walk.proofs.Meeting.{UpTo, won_meets, MetIn, with_images_lem}
use Rattle.walk.proofs.Put.{one_or_two}
use Rattle.needed.specs.Settled.{Turned, WonWalk, driven_to, up_to, stays}
use Rattle.needed.proofs.Settled.{one_way, not_itself, WinsAt, wins_at}

-- ---- which comes first

module _ {P : Type 0} {same before : P → P → Bool} {img src : P → P} {ks : List P} (t : Turned same before img src ks) where
  -- what comes before another comes before all that this comes before
  pub before_all : (i j k : P) → Memᴰ i ks → Memᴰ j ks → Memᴰ k ks → before i j ≡ true → before j k ≡ true → before i k ≡ true
  before_all i j k mi mj mk a b =
      let s = mem_split k ks mk in
      let r = mem_split j s.0 ((t.order s.0 k s.1 s.2 j mj).0 b) in
      let whole : ks ≡ r.0 ++ j ∷ (r.1 ++ k ∷ s.1) = s.2 ∙ ap (λ (l : List P). l ++ k ∷ s.1) r.2 ∙ append_assoc r.0 (j ∷ r.1) (k ∷ s.1) in
      (t.order s.0 k s.1 s.2 i mi).1 (rw r.2 (Memᴰ.append_left (j ∷ r.1) ((t.order r.0 j (r.1 ++ k ∷ s.1) whole i mi).0 a)))

  -- of two that come before one another, the later doesn't come before the earlier
  pub not_after : (j k : P) → Memᴰ j ks → Memᴰ k ks → before j k ≡ true → before k j ≡ false
  not_after j k mj mk b = fails (before k j) (λ c. true≢false (sym (before_all j k j mj mk mj b c) ∙ not_itself t j mj))

  -- a pair that comes before its source, or after it, is another than that
  pub source_apart : (k : P) → Memᴰ k ks → img k ≢ k ↔ src k ≢ k
  source_apart k m = (λ n e. n (ap img (sym e) ∙ t.image_source k m), λ n e. n (ap src (sym e) ∙ t.source_image k m))

-- ---- a won walk

module _ {P : Type 0} {same before : P → P → Bool} {img src : P → P} {ks : List P} {v : P → ℕ} {w : P} (won_w : WonWalk same before img src ks v w) where
  abbrev t : Turned same before img src ks
  t = won_w.turned

  -- where it is won, and that this pair and its image are among the others
  pub at_w : WinsAt won_w.turned v w
  at_w = wins_at t v w won_w.wins

  pub mw : Memᴰ w ks
  mw = at_w.listed

  pub mi : Memᴰ (img w) ks
  mi = t.image_in w mw

  -- the pairs up to w are those before which w does not come
  pub up_to_lem : (xs ys : List P) → ks ≡ xs ++ w ∷ ys → (i : P) → Memᴰ i (xs ++ w ∷ []) ↔ (Memᴰ i ks × (before w i ≡ false))
  up_to_lem xs ys e i = (λ m. to (Memᴰ.append_cases xs m), λ h. from h.0 h.1 (one_or_two t.tells i w))
    where
      to : Memᴰ i xs ⊎ Memᴰ i (w ∷ []) → Memᴰ i ks × (before w i ≡ false)
      to (inl m) = let mi : Memᴰ i ks = rw e (Memᴰ.append_left (w ∷ ys) m) in (mi, not_after t i w mi mw ((t.order xs w ys e i mi).1 m))
      to (inr m) = let q = Memᴰ.eq_of_singleton m in (rw q mw, rw q (not_itself t w mw))

      from : Memᴰ i ks → before w i ≡ false → (i ≡ w) ⊎ (i ≢ w) → Memᴰ i (xs ++ w ∷ [])
      from m b (inl q) = Memᴰ.append_right xs (Memᴰ.head q)
      from m b (inr n) = Memᴰ.append_left (w ∷ []) ((t.order xs w ys e i m).0 (one_way t i w m mw n ∙ ap not b))

  -- the pairs met are those up to w that aren't their own images, and the images of these
  pub met_by : (k : P) → Memᴰ k ks → Memᴰ k (met same img ks v) ↔ ((img k ≢ k) × ((before w k ≡ false) ⊎ (before w (src k) ≡ false)))
  met_by k m = (λ i. to (are.0 (rw u.pairs at i)), λ h. rw u.pairs (are.1 (from h.0 h.1)))
    where
      u : UpTo t.tells img ks w (met same img ks v)
      u = won_meets t.tells img ks v w won_w.wins

      are : Memᴰ k (with_images same img (u.before ++ w ∷ [])) ↔ MetIn img (u.before ++ w ∷ []) k
      are = with_images_lem t.tells img (u.before ++ w ∷ []) k

      to : MetIn img (u.before ++ w ∷ []) k → (img k ≢ k) × ((before w k ≡ false) ⊎ (before w (src k) ≡ false))
      to (i, n, moved, inl e) = (rw e moved, inl (rw e ((up_to_lem u.before u.after u.split i).0 n).1))
      to (i, n, moved, inr e) =
          let mi = (up_to_lem u.before u.after u.split i).0 n in
          let back : src k ≡ i = ap src e ∙ t.source_image i mi.0 in
          ((source_apart t k m).1 (λ q. moved (sym e ∙ sym q ∙ back)), inr (rw back mi.1))

      from : img k ≢ k → (before w k ≡ false) ⊎ (before w (src k) ≡ false) → MetIn img (u.before ++ w ∷ []) k
      from moved (inl b) = (k, (up_to_lem u.before u.after u.split k).1 (m, b), moved, inl refl)
      from moved (inr b) =
          (src k, (up_to_lem u.before u.after u.split (src k)).1 (t.source_in k m, b), λ q. (source_apart t k m).0 moved (sym q ∙ t.image_source k m), inr (sym (t.image_source k m)))

  -- ---- the entries that stay

  -- why an entry stays
  pub data Stays (a b : Bool) (k : P) : Type 0 where
    edge_stays : v k ≡ 1 → before k (src k) ≡ true → up_to before a w k ≡ true → Stays a b k
    gap_stays : v k ≡ 0 → before (src k) k ≡ true → up_to before b w (src k) ≡ true → Stays a b k

  pub stays_tells : (a b : Bool) (k : P) → (stays before src v w a b k ≡ true) ↔ Stays a b k
  unfolding stays
  stays_tells a b k = (λ e. to (one_holds edge gap e), from)
    where
      edge : Bool
      edge = both (eqb (v k) 1) (both (before k (src k)) (up_to before a w k))

      gap : Bool
      gap = both (eqb (v k) 0) (both (before (src k) k) (up_to before b w (src k)))

      to : (edge ≡ true) ⊎ (gap ≡ true) → Stays a b k
      to (inl e) = let r = both_second (eqb (v k) 1) _ e in edge_stays (eqb-true (v k) 1 (both_first (eqb (v k) 1) _ e)) (both_first (before k (src k)) _ r) (both_second (before k (src k)) _ r)
      to (inr e) = let r = both_second (eqb (v k) 0) _ e in gap_stays (eqb-true (v k) 0 (both_first (eqb (v k) 0) _ e)) (both_first (before (src k) k) _ r) (both_second (before (src k) k) _ r)

      from : Stays a b k → either edge gap ≡ true
      from (edge_stays x y z) = either_first edge gap (both_hold (eqb (v k) 1) _ (eq-eqb (v k) 1 x) (both_hold (before k (src k)) _ y z))
      from (gap_stays x y z) = either_second edge gap (both_hold (eqb (v k) 0) _ (eq-eqb (v k) 0 x) (both_hold (before (src k) k) _ y z))

  -- whether w is left out matters at w alone
  upto_other : (a : Bool) (k : P) → Memᴰ k ks → k ≢ w → up_to before a w k ≡ not (before w k)
  unfolding up_to pick
  upto_other true k m n = one_way t k w m mw n
  upto_other false k m n = refl

  pub upto_w : up_to before true w w ≡ false
  unfolding up_to pick
  upto_w = not_itself t w mw

  -- a pair up to w is not after it
  pub upto_not_after : (a : Bool) (k : P) → Memᴰ k ks → up_to before a w k ≡ true → before w k ≡ false
  unfolding up_to pick
  upto_not_after true k m e = not_after t k w m mw e
  upto_not_after false k m e = at (before w k) e
    where
      at : (b : Bool) → not b ≡ true → b ≡ false
      at true e = absurd (false≢true e)
      at false e = refl

  -- so does whether an entry stays
  pub stays_alike : (a b c d : Bool) (k : P) → Memᴰ k ks → (k ≢ w) ⊎ (a ≡ c) → (src k ≢ w) ⊎ (b ≡ d) → stays before src v w a b k ≡ stays before src v w c d k
  unfolding stays
  stays_alike a b c d k m x y = rw (here x, there y) refl
    where
      here : (k ≢ w) ⊎ (a ≡ c) → up_to before a w k ≡ up_to before c w k
      here (inl n) = upto_other a k m n ∙ sym (upto_other c k m n)
      here (inr e) = rw e refl

      there : (src k ≢ w) ⊎ (b ≡ d) → up_to before b w (src k) ≡ up_to before d w (src k)
      there (inl n) = upto_other b (src k) (t.source_in k m) n ∙ sym (upto_other d (src k) (t.source_in k m) n)
      there (inr e) = rw e refl

  -- an entry that stays is met and is known
  module _ (k : P) (m : Memᴰ k ks) where
    pub stays_moved : {a b : Bool} → Stays a b k → src k ≢ k
    stays_moved (edge_stays x y z) e = true≢false (sym y ∙ ap (before k) e ∙ not_itself t k m)
    stays_moved (gap_stays x y z) e = true≢false (sym y ∙ ap (λ (j : P). before j k) e ∙ not_itself t k m)

    pub stays_met : {a b : Bool} → Stays a b k → Memᴰ k (met same img ks v)
    stays_met s = (met_by k m).1 ((source_apart t k m).1 (stays_moved s), reaches s)
      where
        reaches : {a b : Bool} → Stays a b k → (before w k ≡ false) ⊎ (before w (src k) ≡ false)
        reaches {a} (edge_stays x y z) = inl (upto_not_after a k m z)
        reaches {a} {b} (gap_stays x y z) = inr (upto_not_after b (src k) (t.source_in k m) z)

    pub stays_known : {a b : Bool} → Stays a b k → v k ≤ 1
    stays_known (edge_stays x y z) = omega arith
    stays_known (gap_stays x y z) = omega arith

    -- one that stays with one left out stays with none left out
    pub stays_all : (a b : Bool) → stays before src v w a b k ≡ true → stays before src v w false false k ≡ true
    unfolding up_to pick
    stays_all a b e = (stays_tells false false k).1 (at ((stays_tells a b k).0 e))
      where
        at : Stays a b k → Stays false false k
        at (edge_stays x y z) = edge_stays x y (ap not (upto_not_after a k m z))
        at (gap_stays x y z) = gap_stays x y (ap not (upto_not_after b (src k) (t.source_in k m) z))

    -- and each stays that is met, is known, and where an unknown one would be driven to the other value
    pub other_stays : Memᴰ k (met same img ks v) → v k ≤ 1 → v k ≢ driven_to before src k → stays before src v w false false k ≡ true
    unfolding driven_to up_to pick
    other_stays i h n = (stays_tells false false k).1 (at (holds_or_fails (before (src k) k)))
      where
        there : Memᴰ (src k) ks
        there = t.source_in k m

        is : (img k ≢ k) × ((before w k ≡ false) ⊎ (before w (src k) ≡ false))
        is = (met_by k m).0 i

        -- of 0 and 1 it is the one that it would not be driven to
        left : (x d : ℕ) → x ≤ 1 → d ≤ 1 → x ≢ d → x ≡ 1 - d
        left x d h l n = omega arith

        at : (before (src k) k ≡ true) ⊎ (before (src k) k ≡ false) → Stays false false k
        at (inl e) = gap_stays (left (v k) 1 h (omega arith) (λ q. n (rw e q))) e (ap not (go is.1))
          where
            go : (before w k ≡ false) ⊎ (before w (src k) ≡ false) → before w (src k) ≡ false
            go (inl f) = fails (before w (src k)) (λ c. true≢false (sym (before_all t w (src k) k mw there m c e) ∙ f))
            go (inr f) = f
        at (inr e) = edge_stays (left (v k) 0 h (omega arith) (λ q. n (rw e q))) first (ap not (go is.1))
          where
            first : before k (src k) ≡ true
            first = one_way t k (src k) m there (λ q. (source_apart t k m).0 is.0 (sym q)) ∙ ap not e

            go : (before w k ≡ false) ⊎ (before w (src k) ≡ false) → before w k ≡ false
            go (inl f) = f
            go (inr f) = fails (before w k) (λ c. true≢false (sym (before_all t w k (src k) mw m there c first) ∙ f))
