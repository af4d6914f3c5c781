-- A won walk by the entries that stay: they win, and what is known of those at the winning pair and its image.
use Prim.Native.Nat.{ℕ, ◌≤◌}
use native.Mathlib.Omega.{arith}
use native.Mathlib.Decide.{ℕ_discrete, dec_le}
use mathlib.Core.Path.{◌≡◌, refl, sym, ◌∙◌, ap}
use mathlib.Core.Logic.{◌⊎◌, inl, inr, ◌≢◌}
use mathlib.Core.Bool.{Bool, true, false, true≢false}
use mathlib.Core.List.{List, Memᴰ}
use Rattle.laws.specs.Test.{pick}
use Rattle.laws.specs.TestLaws.{fails}
use Rattle.walk.specs.Walk.{walk}
use Rattle.walk.specs.Meeting.{met}
use Rattle.walk.proofs.Put.{one_or_two}
use Rattle.needed.specs.Settled.{Turned, WonWalk, driven_to, settled, stays, staying, wins_by}
use Rattle.needed.proofs.Enough.{won_test}
use Rattle.needed.proofs.Settled.{settled_known, settled_unknown, not_itself, at_wins}
use Rattle.needed.proofs.Staying.{at_w, mw, mi, not_after, source_apart, met_by, Stays, edge_stays, gap_stays, stays_tells, other_stays, upto_w}

-- ---- entries

module _ {P : Type 0} (before : P → P → Bool) (src : P → P) (v : P → ℕ) (k : P) where
  -- the settled entry of a drawing that has that of v, or none
  pub settled_where : (y : P → ℕ) (s : Bool) → y k ≡ pick s (v k) 2 → settled before src y k ≡ pick s (settled before src v k) (driven_to before src k)
  unfolding settled pick
  settled_where y true e = rw e refl
  settled_where y false e = settled_unknown before src y k (omega arith)

  -- it matters only where an unknown entry would be driven to the other value
  pub pick_alike : (r s : Bool) → (settled before src v k ≢ driven_to before src k → r ≡ s) → pick r (settled before src v k) (driven_to before src k) ≡ pick s (settled before src v k) (driven_to before src k)
  unfolding pick
  pick_alike r s h = at (ℕ_discrete (settled before src v k) (driven_to before src k))
    where
      same_both : (b : Bool) → settled before src v k ≡ driven_to before src k → pick b (settled before src v k) (driven_to before src k) ≡ driven_to before src k
      same_both true e = e
      same_both false e = refl

      at : Dec (settled before src v k ≡ driven_to before src k) → pick r (settled before src v k) (driven_to before src k) ≡ pick s (settled before src v k) (driven_to before src k)
      at (yes e) = same_both r e ∙ sym (same_both s e)
      at (no n) = rw (h n) refl

module _ {P : Type 0} {same before : P → P → Bool} {img src : P → P} {ks : List P} {v : P → ℕ} {w : P} (won_w : WonWalk same before img src ks v w) where
  abbrev t : Turned same before img src ks
  t = won_w.turned

  abbrev x : P → ℕ
  x = settled before src v

  abbrev to : P → ℕ
  to = driven_to before src

  -- whether the entry at k stays, with one or both of those at w left out
  abbrev pub keeps : Bool → Bool → P → Bool
  keeps = stays before src v w

  pub moved_w : img w ≢ w
  moved_w e = omega (arith, (at_w won_w).one, (at_w won_w).zero, ap x e)

  -- an entry that is met has its settled value among those that stay
  keeps_or_settled : (k : P) → Memᴰ k ks → Memᴰ k (met same img ks v) → keeps false false k ≡ false → x k ≡ to k
  keeps_or_settled k m i e = at (dec_le (v k) 1)
    where
      at : Dec (v k ≤ 1) → x k ≡ to k
      at (no n) = settled_unknown before src v k (omega arith)
      at (yes h) = go (ℕ_discrete (v k) (to k))
        where
          go : Dec (v k ≡ to k) → x k ≡ to k
          go (yes q) = settled_known before src v k h ∙ q
          go (no n) = absurd (true≢false (sym (other_stays won_w k m i h n) ∙ e))

  -- the entry at w stays only if it isn't left out, and so does that at its image
  pub pair_left_out : (b : Bool) → keeps true b w ≡ false
  pair_left_out b = fails (keeps true b w) (λ e. at ((stays_tells won_w true b w).0 e))
    where
      at : Stays won_w true b w → ⊥
      at (edge_stays a c d) = true≢false (sym d ∙ upto_w won_w)
      at (gap_stays a c d) = omega (arith, a, (at_w won_w).one, settled_known before src v w (omega arith))

  pub image_left_out : (a : Bool) → keeps a true (img w) ≡ false
  image_left_out a = fails (keeps a true (img w)) (λ e. at ((stays_tells won_w a true (img w)).0 e))
    where
      at : Stays won_w a true (img w) → ⊥
      at (edge_stays b c d) = omega (arith, b, (at_w won_w).zero, settled_known before src v (img w) (omega arith))
      at (gap_stays b c d) = true≢false (sym (rw (t.source_image w (mw won_w)) at d) ∙ upto_w won_w)

  -- where that at w stays, w comes before its source; where that at its image stays, w comes before this
  pub pair_first : (a b : Bool) → keeps a b w ≡ true → before w (src w) ≡ true
  pair_first a b e = at ((stays_tells won_w a b w).0 e)
    where
      at : Stays won_w a b w → before w (src w) ≡ true
      at (edge_stays c y z) = y
      at (gap_stays c y z) = absurd (omega (arith, c, (at_w won_w).one, settled_known before src v w (omega arith)))

  pub image_after : (a b : Bool) → keeps a b (img w) ≡ true → before w (img w) ≡ true
  image_after a b e = at ((stays_tells won_w a b (img w)).0 e)
    where
      at : Stays won_w a b (img w) → before w (img w) ≡ true
      at (edge_stays c y z) = absurd (omega (arith, c, (at_w won_w).zero, settled_known before src v (img w) (omega arith)))
      at (gap_stays c y z) = rw (t.source_image w (mw won_w)) at y

  -- the image of a pair up to w is met
  pub image_met : (k : P) → Memᴰ k ks → img k ≢ k → before w k ≡ false → Memᴰ (img k) (met same img ks v)
  image_met k m n late =
      let there = t.image_in k m in
      (met_by won_w (img k) there).1 ((source_apart t (img k) there).1 (λ e. n (sym e ∙ t.source_image k m)), inr (rw (t.source_image k m) late))

  -- an entry that is met, and stays where it would with nothing left out, has its settled value
  pub staying_met : (a b : Bool) (k : P) → Memᴰ k ks → Memᴰ k (met same img ks v) → stays before src v w a b k ≡ stays before src v w false false k
      → settled before src (staying before src v w a b) k ≡ settled before src v k
  unfolding staying
  staying_met a b k m i e = settled_where before src v k (staying before src v w a b) (keeps a b k) refl ∙ at (keeps a b k) refl
    where
      at : (s : Bool) → keeps a b k ≡ s → pick s (x k) (to k) ≡ x k
      at true f = unfold pick in refl
      at false f = unfold pick in sym (keeps_or_settled k m i (sym e ∙ f))

  -- by the entries that stay, all of them, the walk is won at w
  pub all_win : wins_by same before img src ks v w false false ≡ true
  unfolding wins_by staying
  all_win = (won_test (walk same img ks y)).1 (at_wins t y w record { listed = (mw won_w); agrees = agrees; one = as_v w (mw won_w) met_w ∙ (at_w won_w).one; zero = as_v (img w) (mi won_w) met_i ∙ (at_w won_w).zero })
    where
      y : P → ℕ
      y = staying before src v w false false

      as_v : (k : P) → Memᴰ k ks → Memᴰ k (met same img ks v) → settled before src y k ≡ x k
      as_v k m i = staying_met false false k m i refl

      met_w : Memᴰ w (met same img ks v)
      met_w = (met_by won_w w (mw won_w)).1 (moved_w, inl (not_itself t w (mw won_w)))

      met_i : Memᴰ (img w) (met same img ks v)
      met_i = image_met w (mw won_w) moved_w (not_itself t w (mw won_w))

      agrees : (k : P) → Memᴰ k ks → before k w ≡ true → settled before src y (img k) ≡ settled before src y k
      agrees k m b = at (one_or_two t.tells (img k) k)
        where
          late : before w k ≡ false
          late = not_after t k w m (mw won_w) b

          at : (img k ≡ k) ⊎ (img k ≢ k) → settled before src y (img k) ≡ settled before src y k
          at (inl e) = ap (settled before src y) e
          at (inr n) =
              as_v (img k) (t.image_in k m) (image_met k m n late) ∙ (at_w won_w).agrees k m b ∙ sym (as_v k m ((met_by won_w k m).1 (n, inl late)))
