-- The mask of the vertices of a list.
use Prim.Native.Nat.{ℕ, suc, ◌+◌, ◌-◌, ◌^◌, ◌≤◌, ◌<◌}
use mathlib.Core.Path.{◌≡◌, refl, sym, ap, ◌∙◌}
use mathlib.Core.Bool.{Bool, true, false, not}
use mathlib.Core.List.{List, [], ◌∷◌, ◌++◌, append-nil}
use native.Mathlib.Omega.{arith}
use lib.ListN.{length}
use lib.Pow.{pow_pos}
use lib.Seq.{append_snoc}
use lib.Dec.{eqb}
use borrow.Author.Tests.{eqb-true, eqb-false}
use Rattle.laws.specs.Test.{both, pick}
use Rattle.laws.specs.TestLaws.{both_first, second_fails, pick_true, pick_false}
use Rattle.laws.specs.Bit.{bit}
use Rattle.laws.specs.BitLaws.{bit_of_zero}
use Rattle.laws.specs.Chosen.{chosen_fits}
use Rattle.laws.specs.Masks.{added_same, added_other, added_below}
use Rattle.beginnings.specs.Beginning.{absent, may_follow, children}
use Rattle.beginnings.proofs.Children.{Child, mem_of_child}
use Rattle.beginnings.proofs.Follows.{Follows}
use Rattle.stops.specs.Used.{used_mask}

-- one vertex more adds its bit
pub used_more : (b : List ℕ) (v : ℕ) → used_mask (b ++ (v ∷ [])) ≡ used_mask b + 2 ^ (v - 1)
unfolding used_mask
used_more [] v = omega arith
used_more (w ∷ b) v = omega (arith, used_more b v)

-- the same, for code that holds the masks before and after: down to v, that is suc t, and up again
pub used_down : (b : List ℕ) (v t used next : ℕ) → v ≡ suc t → used ≡ used_mask b → next ≡ used + 2 ^ t → next ≡ used_mask (b ++ (v ∷ []))
used_down b v t used next e q r = let place : v - 1 ≡ t = omega arith in r ∙ rw (q, used_more b v, place)

pub used_up : (b : List ℕ) (v t used next : ℕ) → v ≡ suc t → used ≡ used_mask (b ++ (v ∷ [])) → next ≡ used - 2 ^ t → next ≡ used_mask b
used_up b v t used next e q r = let place : v - 1 ≡ t = omega arith in let more = rw place at (used_more b v) in omega (arith, more)

-- a second test that always holds decides nothing
both_true : (t : Bool) → both t true ≡ t
unfolding both
both_true true = refl
both_true false = refl

-- a vertex is absent from a longer list where it is from the shorter and is not the last
absent_more : (b : List ℕ) (v w : ℕ) → absent (b ++ (v ∷ [])) w ≡ both (absent b w) (not (eqb w v))
unfolding absent both
absent_more [] v w = both_true (not (eqb w v))
absent_more (u ∷ b) v w = go (eqb w u) (absent_more b v w)
  where
    go : (t : Bool) → absent (b ++ (v ∷ [])) w ≡ both (absent b w) (not (eqb w v)) → both (not t) (absent (b ++ (v ∷ [])) w) ≡ both (both (not t) (absent b w)) (not (eqb w v))
    go true e = refl
    go false e = e

-- the mask of b tells which of its n bits b has
record Tells (n : ℕ) (b : List ℕ) : Type 0 where
  below : used_mask b < 2 ^ n
  tells : (v : ℕ) → 1 ≤ v → bit (used_mask b) (v - 1) ≡ pick (absent b v) 0 1

module _ (n : ℕ) (block : ℕ → ℕ) where
  -- a child is absent from the list before it
  child_absent : (p : List ℕ) (v : ℕ) → Child n block p v → absent p v ≡ true
  unfolding children may_follow
  child_absent p v c = both_first (absent p v) (eqb (block v) (block (suc (length p)))) (chosen_fits (may_follow block p) n v (mem_of_child n block p v c)).2

  -- a child keeps this so
  tells_more : (p : List ℕ) (v : ℕ) → Tells n p → Child n block p v → Tells n (p ++ (v ∷ []))
  tells_more p v h c =
      record {
        below = rw (used_more p v) (added_below (used_mask p) (v - 1) n clear h.below (omega (arith, c.low, c.high)));
        tells = λ w l. rw (used_more p v, absent_more p v w) (at w l (eqb w v) refl);
      }
    where
      clear : bit (used_mask p) (v - 1) ≡ 0
      clear = h.tells v c.low ∙ pick_true (absent p v) 0 1 (child_absent p v c)

      at : (w : ℕ) → 1 ≤ w → (t : Bool) → eqb w v ≡ t → bit (used_mask p + 2 ^ (v - 1)) (w - 1) ≡ pick (both (absent p w) (not t)) 0 1
      at w l true e = let q : w ≡ v = eqb-true w v e in rw q (added_same (used_mask p) (v - 1) clear ∙ sym (pick_false (both (absent p v) false) 0 1 (second_fails (absent p v) false refl)))
      at w l false e =
          added_other (used_mask p) (v - 1) (w - 1) clear (λ d. eqb-false w v e (omega (arith, c.low))) ∙ h.tells w l
          ∙ ap (λ (t : Bool). pick t 0 1) (sym (both_true (absent p w)))

  -- and so does a walk of children
  tells_after : (p b : List ℕ) → Tells n p → Follows n block p b → Tells n (p ++ b)
  tells_after p [] h f = rw append-nil h
  tells_after p (v ∷ b) h f = rw (append_snoc p v b) at (tells_after (p ++ (v ∷ [])) b (tells_more p v h f.0) f.1)

  tells_none : Tells n []
  unfolding used_mask absent pick
  tells_none = record { below = pow_pos n; tells = λ v l. bit_of_zero (v - 1) }

  module _ (b : List ℕ) (f : Follows n block [] b) where
    -- bit v - 1 is 0 where v is absent, else 1
    pub used_bit : (v : ℕ) → 1 ≤ v → bit (used_mask b) (v - 1) ≡ pick (absent b v) 0 1
    used_bit = (tells_after [] b tells_none f).tells

    -- the mask has n bits
    pub used_below : used_mask b < 2 ^ n
    used_below = (tells_after [] b tells_none f).below
