-- The block of the next place without the vertices in use marks the children of a list.
use Prim.Native.Nat.{ℕ, suc, ◌+◌, ◌-◌, ◌/◌, ◌%◌, ◌^◌, ◌≤◌, ◌<◌}
use mathlib.Core.Path.{◌≡◌, refl, ap, ◌∙◌}
use mathlib.Core.Bool.{Bool, true, false}
use mathlib.Core.Logic.{◌≢◌, ⊎_elim}
use mathlib.Core.List.Memᴰ
use mathlib.Core.List.{List, [], ◌∷◌, Memᴰ}
use native.Mathlib.Omega.{arith}
use lib.ListN.{length}
use lib.Count.{count_trailing_zeros}
use lib.Pow.{shr-shr}
use lib.Bits.{bit_and, and_zero_r}
use lib.Dec.{eqb}
use Rattle.laws.specs.Test.{both, pick}
use Rattle.laws.specs.TestLaws.{pick_true, pick_false}
use Rattle.laws.specs.Bit.{bit}
use Rattle.laws.specs.UpToLaws.{word_below, word_bit}
use Rattle.laws.specs.Chosen.{Ascending, is_chosen, chosen_same, chosen_ascend}
use Rattle.laws.specs.Masks.{marked, members, is_marked, not_marked, without_lacks, without_has, not_empty, lowest_below, lowest_first}
use Rattle.beginnings.specs.Beginning.{absent, may_follow, children}
use Rattle.beginnings.proofs.Follows.{Follows}
use Rattle.stops.specs.Used.{used_mask}
use Rattle.stops.proofs.UsedLaws.{used_bit}
use Rattle.exploring.specs.Masks.{same_block, block_mask}

-- ---- the lowest bit

module _ (m n k : ℕ) (count : k ≡ count_trailing_zeros 32 m) (fits : m < 2 ^ n) (small : n ≤ 32) (some : m ≢ 0) where
  -- no bit below the lowest is set
  pub lowest_least : (d : ℕ) → d < k → bit m d ≢ 1
  unfolding members
  lowest_least d l e =
      ⊎_elim (λ (q : suc d ≡ suc k). omega arith)
      (λ (q : Memᴰ (suc d) (members (m - 2 ^ k) n)). omega (arith, head.0 (suc d) q))
      (Memᴰ.cases_cons (rw first at there))
    where
      first : members m n ≡ suc k ∷ members (m - 2 ^ k) n
      first = lowest_first m n k (m - 2 ^ k) count refl fits small (not_empty m some)

      there : Memᴰ (suc d) (members m n)
      there =
          let place : suc d - 1 ≡ d = omega arith in
          is_chosen (marked m) n (suc d) (omega arith) (omega (arith, lowest_below m n k count fits small (not_empty m some))) (is_marked m (suc d) (rw place e))

      head : Ascending (suc k ∷ members (m - 2 ^ k) n)
      head = rw first at (chosen_ascend (marked m) n)

-- the bits after the k + 1 lowest
pub shifted : (w k x : ℕ) → bit (w / 2 ^ k / 2 ^ 1) x ≡ bit w (k + (1 + x))
shifted w k x = ap (λ (y : ℕ). y % 2) (shr-shr (w / 2 ^ k) 1 x ∙ shr-shr w k (1 + x))

-- ---- the vertices of a block

module _ (block : ℕ → ℕ) (n i : ℕ) where
  -- a bit is 1 or 0
  one_or_none : (v : ℕ) → same_block block i v ≤ 1
  unfolding same_block pick
  one_or_none v = go (eqb (block v) (block i))
    where
      go : (t : Bool) → pick {A = ℕ} t 1 0 ≤ 1
      go true = omega arith
      go false = omega arith

  -- bit v - 1 is 1 where v lies in the block, else 0
  pub block_bit : (v : ℕ) → 1 ≤ v → v ≤ n → bit (block_mask block n i) (v - 1) ≡ pick (eqb (block v) (block i)) 1 0
  unfolding block_mask same_block
  block_bit v l u = word_bit (same_block block i) n v (λ w _ _. one_or_none w) l u

  -- the mask has n bits
  pub block_below : block_mask block n i < 2 ^ n
  unfolding block_mask
  block_below = word_below (same_block block i) n (λ v l u. one_or_none v)

  pub block_fits : (blk : ℕ) → blk ≡ block_mask block n i → blk < 2 ^ n
  block_fits blk e = rw e block_below

  -- and so it has without the vertices in use
  pub mask_fits : (m blk used : ℕ) → blk ≡ block_mask block n i → m ≡ blk - bit_and blk used → m < 2 ^ n
  mask_fits m blk used e q = omega (arith, block_fits blk e)

-- ---- the children

-- b is a walk from nothing: a beginning, or the empty list
module _ (n : ℕ) (block : ℕ → ℕ) (b : List ℕ) (f : Follows n block [] b) where
  -- the block of the next place, without the vertices in use, marks v where v may follow
  marks_child : (m blk used : ℕ) → blk ≡ block_mask block n (suc (length b)) → used ≡ used_mask b → m ≡ blk - bit_and blk used → (v : ℕ) → 1 ≤ v → v ≤ n → marked m v ≡ may_follow block b v
  unfolding may_follow both
  marks_child m blk used p q e v l u = rw e (go (absent b v) refl (eqb (block v) (block (suc (length b)))) refl)
    where
      in_blk : bit blk (v - 1) ≡ pick (eqb (block v) (block (suc (length b)))) 1 0
      in_blk = rw p (block_bit block n (suc (length b)) v l u)

      in_used : bit used (v - 1) ≡ pick (absent b v) 0 1
      in_used = rw q (used_bit n block b f v l)

      go : (s : Bool) → absent b v ≡ s → (t : Bool) → eqb (block v) (block (suc (length b))) ≡ t → marked (blk - bit_and blk used) v ≡ both s t
      go true a true c = is_marked (blk - bit_and blk used) v (without_lacks blk used (v - 1) (in_used ∙ pick_true (absent b v) 0 1 a) ∙ in_blk ∙ pick_true _ 1 0 c)
      go true a false c = not_marked (blk - bit_and blk used) v (without_lacks blk used (v - 1) (in_used ∙ pick_true (absent b v) 0 1 a) ∙ in_blk ∙ pick_false _ 1 0 c)
      go false a t c = not_marked (blk - bit_and blk used) v (without_has blk used (v - 1) (in_used ∙ pick_false (absent b v) 0 1 a))

  -- its members are the children
  pub mask_children : (m blk used : ℕ) → blk ≡ block_mask block n (suc (length b)) → used ≡ used_mask b → m ≡ blk - bit_and blk used → members m n ≡ children n block b
  unfolding members children
  mask_children m blk used p q e = chosen_same (marked m) (may_follow block b) n (marks_child m blk used p q e)

-- at the start they are the vertices of the block of place 1
pub mask_start : (n : ℕ) (block : ℕ → ℕ) (m : ℕ) → m ≡ block_mask block n 1 → members m n ≡ children n block []
unfolding used_mask
mask_start n block m e = mask_children n block [] tt m m 0 e refl (rw (and_zero_r m) (omega arith))
