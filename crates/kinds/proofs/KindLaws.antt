-- The order of the pairs and the kind of a pair, as the code tells them.
use Prim.Native.Nat.{ℕ, zero, suc, ◌≤◌, ◌<◌}
use native.Mathlib.Omega.{arith}
use mathlib.Core.Path.{◌≡◌, refl, sym, ap, ◌∙◌}
use mathlib.Core.Logic.{◌≢◌, ◌⊎◌, inl, inr}
use mathlib.Core.Bool.{Bool, true, false, not}
use mathlib.Core.List.{List}
use borrow.Author.Tests.{ne_eqb}
use Rattle.laws.specs.Test.{both, pick}
use Rattle.laws.specs.TestLaws.{pick_true, pick_false}
use Rattle.needed.specs.Settled.{up_to}
use Rattle.rows.specs.Rows.{entry_in}
use Rattle.arrangements.specs.Arrangement.{at}
use Rattle.pairs.specs.Pairs.{Pair, pair}
use Rattle.plain.specs.Plain.{pair_of_two}
use Rattle.plain.specs.Before.{before_in}
use Rattle.plain.proofs.Plain.{two_rising, two_falling}
use Rattle.kinds.specs.Kinds.{kind_by, kind_at}

-- ---- the order of the pairs

module _ (mode : ℕ) (w k : Pair) (without b : Bool) where
  pub reached_less : without ≡ true → b ≡ before_in mode k w → b ≡ up_to (before_in mode) without w k
  unfolding up_to pick
  reached_less e h = rw e h

  pub reached_whole : without ≡ false → b ≡ before_in mode w k → not b ≡ up_to (before_in mode) without w k
  unfolding up_to pick
  reached_whole e h = rw e (ap not h)

-- the pair of u and v, the smaller one first
module _ (mode u v : ℕ) (r : Bool) where
  module _ (without : Bool) (w : Pair) where
    pub reached_rising : u < v → r ≡ up_to (before_in mode) without w (pair u v) → r ≡ up_to (before_in mode) without w (pair_of_two u v)
    reached_rising l e = e ∙ ap (up_to (before_in mode) without w) (sym (two_rising u v l))

    pub reached_falling : v ≤ u → r ≡ up_to (before_in mode) without w (pair v u) → r ≡ up_to (before_in mode) without w (pair_of_two u v)
    reached_falling l e = e ∙ ap (up_to (before_in mode) without w) (sym (two_falling u v l))

  -- and (i, j) before it
  module _ (i j : ℕ) where
    pub before_rising : u < v → r ≡ before_in mode (pair i j) (pair u v) → r ≡ before_in mode (pair i j) (pair_of_two u v)
    before_rising l e = e ∙ ap (before_in mode (pair i j)) (sym (two_rising u v l))

    pub before_falling : v ≤ u → r ≡ before_in mode (pair i j) (pair v u) → r ≡ before_in mode (pair i j) (pair_of_two u v)
    before_falling l e = e ∙ ap (before_in mode (pair i j)) (sym (two_falling u v l))

-- ---- the kind of a pair

-- by its entry
module _ (a : ℕ) (first here late source : Bool) where
  edge_kind : a ≡ 1 → kind_by a first here late source ≡ pick (both first here) 1 0
  unfolding kind_by pick
  edge_kind e = rw e

  gap_kind : a ≡ 0 → kind_by a first here late source ≡ pick (both late source) 2 0
  unfolding kind_by pick
  gap_kind e = rw e

  unknown_kind : a ≢ 1 → a ≢ 0 → kind_by a first here late source ≡ 0
  unfolding kind_by pick
  unknown_kind o z = rw (ne_eqb a 1 o, ne_eqb a 0 z)

-- an edge that is written, and a gap that is
pub record WrittenEdge (a : ℕ) (first here : Bool) : Type 0 where
  pub edge : a ≡ 1
  pub comes_first : first ≡ true
  pub reaches : here ≡ true

pub record WrittenGap (a : ℕ) (late source : Bool) : Type 0 where
  pub gap : a ≡ 0
  pub comes_late : late ≡ true
  pub reaches : source ≡ true

-- where something is written, it is one of these
pub kind_some : (a : ℕ) (first here late source : Bool) → kind_by a first here late source ≢ 0 → WrittenEdge a first here ⊎ WrittenGap a late source
unfolding kind_by pick both
kind_some zero first here true true d = inr record { gap = refl; comes_late = refl; reaches = refl }
kind_some zero first here true false d = absurd (d refl)
kind_some zero first here false source d = absurd (d refl)
kind_some (suc zero) true true late source d = inl record { edge = refl; comes_first = refl; reaches = refl }
kind_some (suc zero) true false late source d = absurd (d refl)
kind_some (suc zero) false here late source d = absurd (d refl)
kind_some (suc (suc a)) first here late source d = absurd (d (unknown_kind (suc (suc a)) first here late source (λ e. omega arith) (λ e. omega arith)))

-- the kind of (i, j), from its entry, the places of its vertices and the tests
module _ (mode : ℕ) (edges unknowns q : List ℕ) (w : Pair) (pair_out image_out : Bool) (i j a u v : ℕ) (pa : a ≡ entry_in edges unknowns i j) (pu : u ≡ at q i)
    (pv : v ≡ at q j) where
  is_kind : (r : ℕ)
      → kind_by a (before_in mode (pair i j) (pair_of_two u v)) (up_to (before_in mode) pair_out w (pair i j)) (before_in mode (pair_of_two u v) (pair i j)) (up_to (before_in mode) image_out w (pair_of_two u v)) ≡ r
      → r ≡ kind_at (before_in mode) edges unknowns q w pair_out image_out (pair i j)
  unfolding kind_at
  is_kind r h = sym (rw (pa, pu, pv) at h)

  module _ (edge : a ≡ 1) (b : Bool) (met : b ≡ both (before_in mode (pair i j) (pair_of_two u v)) (up_to (before_in mode) pair_out w (pair i j))) where
    pub edge_written : b ≡ true → 1 ≡ kind_at (before_in mode) edges unknowns q w pair_out image_out (pair i j)
    edge_written h = is_kind 1 (edge_kind a _ _ _ _ edge ∙ pick_true _ 1 0 (sym met ∙ h))

    pub edge_left : b ≡ false → 0 ≡ kind_at (before_in mode) edges unknowns q w pair_out image_out (pair i j)
    edge_left h = is_kind 0 (edge_kind a _ _ _ _ edge ∙ pick_false _ 1 0 (sym met ∙ h))

  module _ (gap : a ≡ 0) (b : Bool) (met : b ≡ both (before_in mode (pair_of_two u v) (pair i j)) (up_to (before_in mode) image_out w (pair_of_two u v))) where
    pub gap_written : b ≡ true → 2 ≡ kind_at (before_in mode) edges unknowns q w pair_out image_out (pair i j)
    gap_written h = is_kind 2 (gap_kind a _ _ _ _ gap ∙ pick_true _ 2 0 (sym met ∙ h))

    pub gap_left : b ≡ false → 0 ≡ kind_at (before_in mode) edges unknowns q w pair_out image_out (pair i j)
    gap_left h = is_kind 0 (gap_kind a _ _ _ _ gap ∙ pick_false _ 2 0 (sym met ∙ h))

  pub unknown_left : a ≢ 1 → a ≢ 0 → 0 ≡ kind_at (before_in mode) edges unknowns q w pair_out image_out (pair i j)
  unknown_left o z = is_kind 0 (unknown_kind a _ _ _ _ o z)
