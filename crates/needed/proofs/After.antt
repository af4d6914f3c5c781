-- Whether the walk is won without the entry at the winning pair, or at its image: it goes on there, and what comes after decides.
use Prim.Native.Nat.{ℕ}
use native.Mathlib.Omega.{arith}
use mathlib.Core.Path.{◌≡◌, refl, sym, ◌∙◌, ap, ap₂}
use mathlib.Core.Logic.{◌⊎◌, inl, inr, ◌≢◌, ◌↔◌}
use mathlib.Core.Bool.{Bool, true, false, not, true≢false}
use mathlib.Core.List.{List, [], ◌∷◌, ◌++◌, append_assoc, Memᴰ}
use lib.Dec.{eqb}
use borrow.Author.Tests.{eqb-true, eq-eqb}
use Rattle.laws.specs.Test.{both, pick}
use Rattle.laws.specs.TestLaws.{fails, same_test, both_first, both_second, both_hold}
use Rattle.laws.specs.Each.{Each, each_first, each_rest}
use Rattle.walk.specs.Walk.{walk}
use Rattle.walk.specs.Earlier.{Earlier, copy}
use Rattle.walk.specs.Meeting.{met}
use Rattle.walk.proofs.Order.{earlier_later, earlier_cases}
use Rattle.walk.proofs.Put.{one_or_two}
use Rattle.needed.specs.Settled.{Turned, WonWalk, driven_to, settled, up_to, stays, staying, wins_by}
use Rattle.needed.proofs.Enough.{won_test}
use Rattle.needed.proofs.Settled.{driven_late, driven_early, settled_known, one_way, not_itself, won_settled}
use Rattle.needed.proofs.Staying.{at_w, mw, mi, not_after, source_apart, met_by, up_to_lem, Stays, edge_stays, gap_stays, stays_tells, stays_alike, upto_not_after}
use Rattle.needed.proofs.Winning.{settled_where, staying_met, image_met, pair_left_out, image_left_out, pair_first, image_after, moved_w}

-- pairs at which two drawings are the same decide nothing
earlier_after : {P : Type 0} (x y : P → ℕ) (us ys : List P) → Each (λ k. x k ≡ y k) us → Earlier (us ++ ys) x y ↔ Earlier ys x y
earlier_after x y [] ys h = (λ e. e, λ e. e)
earlier_after {P} x y (k ∷ us) ys h =
    let go = earlier_after x y us ys (each_rest (λ k. x k ≡ y k) h) in
    (λ e. to go.0 (earlier_cases x y e), λ e. earlier_later x y same (go.1 e))
  where
    same : x k ≡ y k
    same = each_first (λ k. x k ≡ y k) h

    to : (Earlier (us ++ ys) x y → Earlier ys x y) → ((x k ≡ 0) × (y k ≡ 1)) ⊎ ((x k ≡ y k) × Earlier (us ++ ys) x y) → Earlier ys x y
    to go (inl e) = absurd (omega (arith, e.0, e.1, same))
    to go (inr e) = go e.1

module _ {P : Type 0} {same before : P → P → Bool} {img src : P → P} {ks : List P} {v : P → ℕ} {w : P} (won_w : WonWalk same before img src ks v w) where
  abbrev t : Turned same before img src ks
  t = won_w.turned

  module _ (a b : Bool) where
    abbrev x : P → ℕ
    x = settled before src (staying before src v w a b)

    x_is : (k : P) → x k ≡ pick (stays before src v w a b k) (settled before src v k) (driven_to before src k)
    unfolding staying
    x_is k = settled_where before src v k (staying before src v w a b) (stays before src v w a b k) refl

    -- where the walk goes on up to w, the pairs after it decide
    after_decides : ((k : P) → Memᴰ k ks → before w k ≡ false → x (img k) ≡ x k) → (xs ys : List P) → ks ≡ xs ++ w ∷ ys
        → (wins_by same before img src ks v w a b ≡ true) ↔ Earlier ys (copy img x) x
    unfolding wins_by
    after_decides goes_on xs ys e =
        let whole : ks ≡ (xs ++ w ∷ []) ++ ys = e ∙ sym (append_assoc xs (w ∷ []) ys) in
        let tells = won_test (walk same img ks (staying before src v w a b)) in
        let means = won_settled t (staying before src v w a b) in
        let rest = earlier_after (copy img x) x (xs ++ w ∷ []) ys (λ k m. let h = (up_to_lem won_w xs ys e k).0 m in goes_on k h.0 h.1) in (
          λ h. rest.0 (rw whole at (means.0 (tells.0 h))),
          λ h. tells.1 (means.1 (rw whole (rest.1 h))),
        )

    -- before w it does, where the entries before w and their images stay as they do when nothing is left out
    before_goes_on : (k : P) → Memᴰ k ks → before k w ≡ true
        → (img k ≢ k → (stays before src v w a b k ≡ stays before src v w false false k) × (stays before src v w a b (img k) ≡ stays before src v w false false (img k)))
        → x (img k) ≡ x k
    before_goes_on k m e alike = at (one_or_two t.tells (img k) k)
      where
        late : before w k ≡ false
        late = not_after t k w m (mw won_w) e

        at : (img k ≡ k) ⊎ (img k ≢ k) → x (img k) ≡ x k
        at (inl q) = ap x q
        at (inr n) =
            let s = alike n in
            staying_met won_w a b (img k) (t.image_in k m) (image_met won_w k m n late) s.1 ∙ (at_w won_w).agrees k m e
            ∙ sym (staying_met won_w a b k m ((met_by won_w k m).1 (n, inl late)) s.0)

    -- ---- how the entries count after w

    module _ (k : P) (m : Memᴰ k ks) (later : before w k ≡ true) where
      not_up_to : (c : Bool) → up_to before c w k ≡ true → ⊥
      not_up_to c e = true≢false (sym later ∙ upto_not_after won_w c k m e)

      there : Memᴰ (src k) ks
      there = t.source_in k m

      -- an entry whose source comes before it counts as an edge, unless it is a 0 that stays
      pub late_counts : before (src k) k ≡ true → x k ≡ pick (both (eqb (v k) 0) (up_to before b w (src k))) 0 1
      unfolding pick
      late_counts e = x_is k ∙ ap₂ (λ (s : Bool) (d : ℕ). pick s (settled before src v k) d) tests (driven_late before src k e) ∙ at zero refl
        where
          zero : Bool
          zero = both (eqb (v k) 0) (up_to before b w (src k))

          tests : stays before src v w a b k ≡ zero
          tests = same_test (stays before src v w a b k) zero (λ h. to ((stays_tells won_w a b k).0 h)) (λ h. (stays_tells won_w a b k).1 (gap_stays (eqb-true (v k) 0 (both_first (eqb (v k) 0) _ h)) e (both_second (eqb (v k) 0) _ h)))
            where
              to : Stays won_w a b k → zero ≡ true
              to (edge_stays c d f) = absurd (true≢false (sym d ∙ not_after t (src k) k there m e))
              to (gap_stays c d f) = both_hold (eqb (v k) 0) _ (eq-eqb (v k) 0 c) f

          at : (s : Bool) → zero ≡ s → pick s (settled before src v k) 1 ≡ pick s 0 1
          at true f =
              let known : v k ≡ 0 = eqb-true (v k) 0 (both_first (eqb (v k) 0) _ f) in
              settled_known before src v k (omega arith) ∙ known
          at false f = unfold pick in refl

      -- any other counts as a gap
      pub early_counts : before (src k) k ≡ false → x k ≡ 0
      early_counts e = x_is k ∙ ap₂ (λ (s : Bool) (d : ℕ). pick s (settled before src v k) d) (fails (stays before src v w a b k) (λ h. to ((stays_tells won_w a b k).0 h))) (driven_early before src k e) ∙ (unfold pick in refl)
        where
          to : Stays won_w a b k → ⊥
          to (edge_stays c d f) = not_up_to a f
          to (gap_stays c d f) = true≢false (sym d ∙ e)

      module _ (moved : img k ≢ k) where
        abbrev j : P
        j = img k

        mj : Memᴰ (img k) ks
        mj = t.image_in k m

        back : src (img k) ≡ k
        back = t.source_image k m

        -- the entry at an image that comes before k counts as a gap, unless it is a 1 that stays
        pub first_counts : before (img k) k ≡ true → x (img k) ≡ pick (both (eqb (v (img k)) 1) (up_to before a w (img k))) 1 0
        unfolding pick
        first_counts e =
            x_is j ∙ ap₂ (λ (s : Bool) (d : ℕ). pick s (settled before src v j) d) tests (driven_early before src j late) ∙ at one refl
          where
            late : before (src (img k)) (img k) ≡ false
            late = rw back (not_after t j k mj m e)

            one : Bool
            one = both (eqb (v (img k)) 1) (up_to before a w (img k))

            tests : stays before src v w a b (img k) ≡ one
            tests = same_test (stays before src v w a b j) one (λ h. to ((stays_tells won_w a b j).0 h)) (λ h. (stays_tells won_w a b j).1 (edge_stays (eqb-true (v j) 1 (both_first (eqb (v j) 1) _ h)) (rw back e) (both_second (eqb (v j) 1) _ h)))
              where
                to : Stays won_w a b (img k) → one ≡ true
                to (edge_stays c d f) = both_hold (eqb (v j) 1) _ (eq-eqb (v j) 1 c) f
                to (gap_stays c d f) = absurd (true≢false (sym d ∙ late))

            at : (s : Bool) → one ≡ s → pick s (settled before src v (img k)) 0 ≡ pick s 1 0
            at true f =
                let known : v j ≡ 1 = eqb-true (v j) 1 (both_first (eqb (v j) 1) _ f) in
                settled_known before src v j (omega arith) ∙ known
            at false f = unfold pick in refl

        -- any other counts as an edge
        pub last_counts : before (img k) k ≡ false → x (img k) ≡ 1
        last_counts e =
            x_is j ∙ ap₂ (λ (s : Bool) (d : ℕ). pick s (settled before src v j) d) (fails (stays before src v w a b j) (λ h. to ((stays_tells won_w a b j).0 h))) (driven_late before src j (rw back after)) ∙ (unfold pick in refl)
          where
            after : before k (img k) ≡ true
            after = one_way t k j m mj (λ q. moved (sym q)) ∙ ap not e

            to : Stays won_w a b (img k) → ⊥
            to (edge_stays c d f) = true≢false (sym (rw back at d) ∙ e)
            to (gap_stays c d f) = not_up_to b (rw back at f)

  -- ---- the two trials

  module _ (xs ys : List P) (split : ks ≡ xs ++ w ∷ ys) where
    -- a pair up to w is w or comes before it
    up_to_w : (k : P) → Memᴰ k ks → before w k ≡ false → (k ≡ w) ⊎ (before k w ≡ true)
    up_to_w k m e = at (one_or_two t.tells k w)
      where
        at : (k ≡ w) ⊎ (k ≢ w) → (k ≡ w) ⊎ (before k w ≡ true)
        at (inl q) = inl q
        at (inr n) = inr (one_way t k w m (mw won_w) n ∙ ap not e)

    -- a pair before w is not w
    not_w : (k : P) → before k w ≡ true → k ≢ w
    not_w k e q = true≢false (sym e ∙ ap (λ (j : P). before j w) q ∙ not_itself t w (mw won_w))

    met_w : Memᴰ w (met same img ks v)
    met_w = (met_by won_w w (mw won_w)).1 (moved_w won_w, inl (not_itself t w (mw won_w)))

    source_w : src w ≢ w
    source_w = (source_apart t w (mw won_w)).0 (moved_w won_w)

    back_w : src (img w) ≡ w
    back_w = t.source_image w (mw won_w)

    -- the walk is won without the entry at the image of w exactly where the copy is earlier after w
    pub image_trial : stays before src v w false false (img w) ≡ true
        → (wins_by same before img src ks v w false true ≡ true) ↔ Earlier ys (copy img (settled before src (staying before src v w false true))) (settled before src (staying before src v w false true))
    image_trial s = after_decides false true (λ k m e. at k m (up_to_w k m e)) xs ys split
      where
        y : P → ℕ
        y = settled before src (staying before src v w false true)

        later : before w (img w) ≡ true
        later = image_after won_w false false s

        alike : (k : P) → Memᴰ k ks → src k ≢ w → stays before src v w false true k ≡ stays before src v w false false k
        alike k m n = stays_alike won_w false true false false k m (inr refl) (inl n)

        here : y w ≡ 1
        here = staying_met won_w false true w (mw won_w) met_w (alike w (mw won_w) source_w) ∙ (at_w won_w).one

        there : y (img w) ≡ 1
        there = x_is false true (img w) ∙ ap₂ (λ (c : Bool) (d : ℕ). pick c (settled before src v (img w)) d) (image_left_out won_w false) (driven_late before src (img w) (rw back_w later)) ∙ (unfold pick in refl)

        at : (k : P) → Memᴰ k ks → (k ≡ w) ⊎ (before k w ≡ true) → y (img k) ≡ y k
        at k m (inl q) = ap y (ap img q) ∙ there ∙ sym here ∙ ap y (sym q)
        at k m (inr e) =
            before_goes_on false true k m e
            (λ n. (
              alike k m (λ q. true≢false (sym e ∙ ap (λ (j : P). before j w) (sym (t.image_source k m) ∙ ap img q) ∙ not_after t w (img w) (mw won_w) (mi won_w) later)),
              alike (img k) (t.image_in k m) (λ q. not_w k e (sym (t.source_image k m) ∙ q)),
            ))

    -- and without that at w likewise
    pub pair_trial : stays before src v w false false w ≡ true
        → (wins_by same before img src ks v w true false ≡ true) ↔ Earlier ys (copy img (settled before src (staying before src v w true false))) (settled before src (staying before src v w true false))
    pair_trial s = after_decides true false (λ k m e. at k m (up_to_w k m e)) xs ys split
      where
        y : P → ℕ
        y = settled before src (staying before src v w true false)

        first : before w (src w) ≡ true
        first = pair_first won_w false false s

        alike : (k : P) → Memᴰ k ks → k ≢ w → stays before src v w true false k ≡ stays before src v w false false k
        alike k m n = stays_alike won_w true false false false k m (inl n) (inr refl)

        here : y w ≡ 0
        here = x_is true false w ∙ ap₂ (λ (c : Bool) (d : ℕ). pick c (settled before src v w) d) (pair_left_out won_w false) (driven_early before src w (not_after t w (src w) (mw won_w) (t.source_in w (mw won_w)) first)) ∙ (unfold pick in refl)

        there : y (img w) ≡ 0
        there = staying_met won_w true false (img w) (mi won_w) (image_met won_w w (mw won_w) (moved_w won_w) (not_itself t w (mw won_w))) (alike (img w) (mi won_w) (moved_w won_w)) ∙ (at_w won_w).zero

        at : (k : P) → Memᴰ k ks → (k ≡ w) ⊎ (before k w ≡ true) → y (img k) ≡ y k
        at k m (inl q) = ap y (ap img q) ∙ there ∙ sym here ∙ ap y (sym q)
        at k m (inr e) =
            before_goes_on true false k m e
            (λ n. (
              alike k m (not_w k e),
              alike (img k) (t.image_in k m) (λ q. true≢false (sym e ∙ ap (λ (j : P). before j w) (sym (t.source_image k m) ∙ ap src q) ∙ not_after t w (src w) (mw won_w) (t.source_in w (mw won_w)) first)),
            ))
