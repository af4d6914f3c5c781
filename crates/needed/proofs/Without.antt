-- Which literals are enough: told by the entries that stay, and by where the walk is lost without some.
use Prim.Native.Nat.{ℕ, ◌≤◌}
use native.Mathlib.Omega.{arith}
use native.Mathlib.Decide.{dec_le}
use mathlib.Core.Path.{◌≡◌, refl, sym, ◌∙◌, ap}
use mathlib.Core.Logic.{◌⊎◌, inl, inr, ◌≢◌, ◌↔◌}
use mathlib.Core.Bool.{Bool, true, false, not, true≢false}
use mathlib.Core.List.Memᴰ
use mathlib.Core.List.{List, map, Memᴰ}
use Rattle.laws.specs.Test.{either, pick}
use Rattle.laws.specs.TestLaws.{fails, one_holds, either_first, either_second, pick_true, pick_false}
use Rattle.laws.specs.Each.{Each}
use Rattle.walk.specs.Clause.{Literal, pair_in, FalseIn}
use Rattle.walk.specs.Meeting.{met, listed, only}
use Rattle.walk.proofs.Only.{listed_tells}
use Rattle.walk.proofs.Put.{one_or_two}
use Rattle.needed.specs.Kept.{those}
use Rattle.needed.specs.Enough.{is_won, enough, literals}
use Rattle.needed.specs.Settled.{Turned, WonWalk, driven_to, settled, stays, staying, wins_by}
use Rattle.needed.proofs.Kept.{those_are}
use Rattle.needed.proofs.Enough.{literal_for, literals_exactly, enough_tells, enough_more}
use Rattle.needed.proofs.Settled.{driven_late, driven_early, settled_known, settled_unknown, one_way, not_itself, walk_alike, loses_at}
use Rattle.needed.proofs.Staying.{at_w, mw, mi, before_all, not_after, source_apart, met_by, Stays, edge_stays, gap_stays, stays_moved, upto_not_after}
use Rattle.needed.proofs.Winning.{settled_where, pick_alike, pair_first, image_after, image_met}

module _ {P : Type 0} {same before : P → P → Bool} {img src : P → P} {ks : List P} {v : P → ℕ} {w : P} (won_w : WonWalk same before img src ks v w) where
  abbrev t : Turned same before img src ks
  t = won_w.turned

  module _ (lits : List (Literal P)) (a b : Bool) where
    -- literals of the entries that stay, and of any where an unknown one would be driven to the same, are enough where these win
    pub enough_by : Each (λ k. settled before src v k ≢ driven_to before src k → listed same k (map pair_in lits) ≡ stays before src v w a b k) ks → enough same img ks v lits ≡ wins_by same before img src ks v w a b
    unfolding enough wins_by staying only
    enough_by h =
        ap is_won
        (walk_alike t (only same (map pair_in lits) v) (staying before src v w a b)
        (λ k m.
        settled_where before src v k (only same (map pair_in lits) v) (listed same k (map pair_in lits)) refl
        ∙ pick_alike before src v k (listed same k (map pair_in lits)) (stays before src v w a b k) (h k m)
        ∙ sym (settled_where before src v k (staying before src v w a b) (stays before src v w a b k) refl)))

  -- a pair is listed where it has one of the literals
  pub has_pair : (lits : List (Literal P)) (k : P) → (listed same k (map pair_in lits) ≡ true) ↔ ((l : Literal P) × Memᴰ l lits × (pair_in l ≡ k))
  has_pair lits k = (
    λ e. let s = Memᴰ.of_map pair_in lits ((listed_tells t.tells k (map pair_in lits)).0 e) in (s.0, s.1, s.2),
    λ h. (listed_tells t.tells k (map pair_in lits)).1 (Memᴰ.cast (sym h.2) (Memᴰ.map pair_in h.1)),
  )

  -- ---- without some of the literals

  module _ (numbering : List P) (all : (k : P) → Memᴰ k ks → Memᴰ k numbering) where
    abbrev lits : List (Literal P)
    lits = literals same img ks v numbering

    -- which literals there are
    pub is_literal : (l : Literal P) → Memᴰ l (literals same img ks v numbering) ↔ (Memᴰ (pair_in l) numbering × Memᴰ (pair_in l) (met same img ks v) × FalseIn v l)
    is_literal l = literals_exactly t.tells v img ks numbering l

    -- a pair of ks that is met and known has one
    pub literal_of : (k : P) → Memᴰ k ks → Memᴰ k (met same img ks v) → v k ≤ 1 → (l : Literal P) × Memᴰ l (literals same img ks v numbering) × (pair_in l ≡ k)
    literal_of k m i h =
        let l = literal_for v k h in
        (l.0, (is_literal l.0).1 (rw l.1 (all k m), rw l.1 i, l.2), l.1)

    module _ (gone : P → Bool) where
      -- the literals of other pairs
      abbrev others : List (Literal P)
      others = those (λ (l : Literal P). not (gone (pair_in l))) (literals same img ks v numbering)

      abbrev y : P → ℕ
      y = only same (map pair_in others) v

      in_others : (l : Literal P) → Memᴰ l (literals same img ks v numbering) → gone (pair_in l) ≡ false → Memᴰ l others
      in_others l m e = (those_are (λ (l : Literal P). not (gone (pair_in l))) lits l).1 (m, ap not e)

      there_settled : (k : P) → settled before src y k ≡ pick (listed same k (map pair_in others)) (settled before src v k) (driven_to before src k)
      unfolding only
      there_settled k = settled_where before src v k y (listed same k (map pair_in others)) refl

      others_here : (k : P) → Memᴰ k ks → Memᴰ k (met same img ks v) → gone k ≡ false → settled before src y k ≡ settled before src v k
      others_here k m i e = at (dec_le (v k) 1)
        where
          at : Dec (v k ≤ 1) → settled before src y k ≡ settled before src v k
          at (yes h) =
              let l = literal_of k m i h in
              there_settled k ∙ pick_true (listed same k (map pair_in others)) (settled before src v k) (driven_to before src k) ((has_pair others k).1 (l.0, in_others l.0 l.1 (rw l.2 e), l.2))
          at (no h) =
              there_settled k ∙ pick_alike before src v k (listed same k (map pair_in others)) true (λ n. absurd (n (settled_unknown before src v k (omega arith))))
              ∙ (unfold pick in refl)

      others_gone : (k : P) → gone k ≡ true → settled before src y k ≡ driven_to before src k
      others_gone k e =
          there_settled k ∙ pick_false (listed same k (map pair_in others)) (settled before src v k) (driven_to before src k)
          (fails (listed same k (map pair_in others)) (λ h.
          let l = (has_pair others k).0 h in
          let kept = ((those_are (λ (l : Literal P). not (gone (pair_in l))) lits l.0).0 l.1).1 in
          true≢false (sym kept ∙ ap not (ap gone l.2 ∙ e))))

      -- where at a pair up to w this makes it 0 against 1, and no pair before that is touched, no part of them is enough
      none_enough : (f : P) → Memᴰ f ks → before w f ≡ false
          → ((k : P) → Memᴰ k ks → before k f ≡ true → img k ≢ k → (gone k ≡ false) × (gone (img k) ≡ false))
          → settled before src y f ≡ 0 → settled before src y (img f) ≡ 1
          → (zs : List (Literal P)) → Each (λ z. Memᴰ z others) zs → enough same img ks v zs ≡ false
      none_enough f m reach clear zero one zs part =
          fails (enough same img ks v zs) (λ e. loses_at t y f m agrees zero one ((enough_tells t.tells in_ks img ks (λ k i. i) t.image_in v others).0 (enough_more t.tells in_ks img ks (λ k i. i) t.image_in v zs others part e)))
        where
          in_ks : P → Type 0
          in_ks k = Memᴰ k ks

          -- what comes before f comes before w
          earlier : (k : P) → Memᴰ k ks → before k f ≡ true → before k w ≡ true
          earlier k i b = at (one_or_two t.tells f w)
            where
              at : (f ≡ w) ⊎ (f ≢ w) → before k w ≡ true
              at (inl e) = rw (← e) b
              at (inr n) = before_all t k f w i m (mw won_w) b (one_way t f w m (mw won_w) n ∙ ap not reach)

          agrees : (k : P) → Memᴰ k ks → before k f ≡ true → settled before src y (img k) ≡ settled before src y k
          agrees k i b = at (one_or_two t.tells (img k) k)
            where
              late : before w k ≡ false
              late = not_after t k w i (mw won_w) (earlier k i b)

              at : (img k ≡ k) ⊎ (img k ≢ k) → settled before src y (img k) ≡ settled before src y k
              at (inl e) = ap (settled before src y) e
              at (inr n) =
                  let c = clear k i b n in
                  others_here (img k) (t.image_in k i) (image_met won_w k i n late) c.1 ∙ (at_w won_w).agrees k i (earlier k i b) ∙ sym (others_here k i ((met_by won_w k i).1 (n, inl late)) c.0)

    -- ---- where the walk is lost

    -- where neither j nor its source comes before f, a pair that does is another than j, and so is its image
    untouched : (f j : P) → before j f ≡ false → before (src j) f ≡ false → (k : P) → Memᴰ k ks → before k f ≡ true → (k ≢ j) × (img k ≢ j)
    untouched f j n o k m b = (
      λ p. true≢false (sym b ∙ ap (λ (i : P). before i f) p ∙ n),
      λ p. true≢false (sym b ∙ ap (λ (i : P). before i f) (sym (t.source_image k m) ∙ ap src p) ∙ o),
    )

    -- at w, without the entries at w and at its image, where these are needed
    pub lost_without_two : stays before src v w false false w ≡ true → stays before src v w false false (img w) ≡ true
        → (zs : List (Literal P)) → Each (λ z. Memᴰ z (literals same img ks v numbering) × (pair_in z ≢ w) × (pair_in z ≢ img w)) zs → enough same img ks v zs ≡ false
    lost_without_two here there zs part =
        none_enough two w (mw won_w) itself clear
        (others_gone two w (either_first (same w w) _ (t.tells.itself w)) ∙ driven_early before src w source_late)
        (others_gone two (img w) (either_second (same (img w) w) _ (t.tells.itself (img w))) ∙ driven_late before src (img w) (rw back later))
        zs (λ z m. let h = part z m in in_others two z h.0 (not_two (pair_in z) h.1 h.2))
      where
        two : P → Bool
        two k = either (same k w) (same k (img w))

        not_two : (k : P) → k ≢ w → k ≢ img w → two k ≡ false
        not_two k n o = fails (two k) (λ h. side (one_holds (same k w) (same k (img w)) h))
          where
            side : (same k w ≡ true) ⊎ (same k (img w) ≡ true) → ⊥
            side (inl h) = n (t.tells.equal k w h)
            side (inr h) = o (t.tells.equal k (img w) h)

        back : src (img w) ≡ w
        back = t.source_image w (mw won_w)

        itself : before w w ≡ false
        itself = not_itself t w (mw won_w)

        later : before w (img w) ≡ true
        later = image_after won_w false false there

        source_late : before (src w) w ≡ false
        source_late = not_after t w (src w) (mw won_w) (t.source_in w (mw won_w)) (pair_first won_w false false here)

        clear : (k : P) → Memᴰ k ks → before k w ≡ true → img k ≢ k → (two k ≡ false) × (two (img k) ≡ false)
        clear k m b n =
            let pair_apart = untouched w w itself source_late k m b in
            let image_apart = untouched w (img w) (not_after t w (img w) (mw won_w) (mi won_w) later) (rw back itself) k m b in
            (not_two k pair_apart.0 image_apart.0, not_two (img k) pair_apart.1 image_apart.1)

    -- where it is first met, without any other that is needed
    pub lost_without : (c : P) → Memᴰ c ks → c ≢ w → c ≢ img w → {a b : Bool} → Stays won_w a b c
        → (zs : List (Literal P)) → Each (λ z. Memᴰ z (literals same img ks v numbering) × (pair_in z ≢ c)) zs → enough same img ks v zs ≡ false
    lost_without c m nw ni s zs part = at s
      where
        ms : Memᴰ (src c) ks
        ms = t.source_in c m

        it : P → Bool
        it k = same k c

        not_it : (k : P) → k ≢ c → it k ≡ false
        not_it k n = fails (it k) (λ h. n (t.tells.equal k c h))

        in_part : Each (λ z. Memᴰ z (others it)) zs
        in_part z j = let h = part z j in in_others it z h.0 (not_it (pair_in z) h.1)

        gone_settled : settled before src (only same (map pair_in (others it)) v) c ≡ driven_to before src c
        gone_settled = others_gone it c (t.tells.itself c)

        moved : src c ≢ c
        moved = stays_moved won_w c m s

        clear : (f : P) → before c f ≡ false → before (src c) f ≡ false → (k : P) → Memᴰ k ks → before k f ≡ true → img k ≢ k → (it k ≡ false) × (it (img k) ≡ false)
        clear f n o k mk h moved_k = let apart = untouched f c n o k mk h in (not_it k apart.0, not_it (img k) apart.1)

        at : {a b : Bool} → Stays won_w a b c → enough same img ks v zs ≡ false
        at {a} (edge_stays x y z) = none_enough it c m late (clear c (not_itself t c m) source_late) (gone_settled ∙ driven_early before src c source_late) one zs in_part
          where
            late : before w c ≡ false
            late = upto_not_after won_w a c m z

            source_late : before (src c) c ≡ false
            source_late = not_after t c (src c) m ms y

            image_moved : img c ≢ c
            image_moved = (source_apart t c m).1 moved

            one : settled before src (only same (map pair_in (others it)) v) (img c) ≡ 1
            one =
                others_here it (img c) (t.image_in c m) (image_met won_w c m image_moved late) (not_it (img c) image_moved)
                ∙ (at_w won_w).agrees c m (one_way t c w m (mw won_w) nw ∙ ap not late) ∙ settled_known before src v c (omega arith) ∙ x
        at {a} {b} (gap_stays x y z) =
            none_enough it (src c) ms late (clear (src c) (not_after t (src c) c ms m y) (not_itself t (src c) ms)) zero
            (ap (settled before src (only same (map pair_in (others it)) v)) (t.image_source c m) ∙ gone_settled ∙ driven_late before src c y) zs in_part
          where
            late : before w (src c) ≡ false
            late = upto_not_after won_w b (src c) ms z

            zero : settled before src (only same (map pair_in (others it)) v) (src c) ≡ 0
            zero =
                others_here it (src c) ms ((met_by won_w (src c) ms).1 (λ p. moved (sym p ∙ t.image_source c m), inl late)) (not_it (src c) moved)
                ∙ sym ((at_w won_w).agrees (src c) ms (one_way t (src c) w ms (mw won_w) (λ p. ni (sym (t.image_source c m) ∙ ap img p)) ∙ ap not late))
                ∙ ap (settled before src v) (t.image_source c m) ∙ settled_known before src v c (omega arith) ∙ x
