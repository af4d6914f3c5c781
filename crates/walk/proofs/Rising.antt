-- The numbers of a clause rise strictly by absolute value, from 1 up to the length of the list of pairs.
use Prim.Native.Nat.{ℕ, suc, ◌+◌, ◌≤◌}
use native.Mathlib.Omega.{arith}
use mathlib.Core.Bool.{Bool, true, false}
use mathlib.Core.List.{List, [], ◌∷◌}
use lib.IntN.{ℤ, nat_abs}
use lib.ListN.{length}
use Rattle.laws.specs.Each.{Each, each_none, each_cons}
use Rattle.walk.specs.Clause.{Literal, absent, present, among, numbered, clause_after, clause, RisingAbove}

-- what rises above n rises above what is less
pub rising_lower : (m n : ℕ) (zs : List ℤ) → m ≤ n → RisingAbove n zs → RisingAbove m zs
unfolding RisingAbove
rising_lower m n [] h r = tt
rising_lower m n (z ∷ zs) h r = (omega (arith, r.0), r.1)

module _ {P : Type 0} (same : P → P → Bool) (lits : List (Literal P)) where
  rising_after : (i : ℕ) (ks : List P) → RisingAbove i (clause_after same lits i ks)
  unfolding clause_after numbered RisingAbove
  rising_after i [] = tt
  rising_after i (k ∷ ks) = at (among same (absent k) lits) (among same (present k) lits) (rising_after (suc i) ks)
    where
      at : (a p : Bool) → RisingAbove (suc i) (clause_after same lits (suc i) ks)
          → RisingAbove i (numbered a p (suc i) (clause_after same lits (suc i) ks))
      at true p r = (omega arith, r)
      at false true r = (omega arith, r)
      at false false r = rising_lower i (suc i) (clause_after same lits (suc i) ks) (omega arith) r

  -- the numbers of a clause rise strictly, from 1 on
  pub clause_rising : (ks : List P) → RisingAbove 0 (clause same lits ks)
  unfolding clause
  clause_rising ks = rising_after 0 ks

  bounded_after : (i : ℕ) (ks : List P) → Each (λ z. nat_abs z ≤ i + length ks) (clause_after same lits i ks)
  unfolding clause_after numbered
  bounded_after i [] = each_none (λ z. nat_abs z ≤ i + 0)
  bounded_after i (k ∷ ks) =
      at (among same (absent k) lits) (among same (present k) lits) (λ z m. omega (arith, bounded_after (suc i) ks z m))
    where
      here : (z : ℤ) → Type 0
      here z = nat_abs z ≤ i + length (k ∷ ks)

      at : (a p : Bool) → Each here (clause_after same lits (suc i) ks)
          → Each here (numbered a p (suc i) (clause_after same lits (suc i) ks))
      at true p h = each_cons here (omega arith) h
      at false true h = each_cons here (omega arith) h
      at false false h = h

  -- and are at most the length of ks
  pub clause_bounded : (ks : List P) → Each (λ z. nat_abs z ≤ length ks) (clause same lits ks)
  unfolding clause
  clause_bounded ks z m = omega (arith, bounded_after 0 ks z m)

  long_after : (i : ℕ) (ks : List P) → length (clause_after same lits i ks) ≤ length ks
  unfolding clause_after numbered
  long_after i [] = omega arith
  long_after i (k ∷ ks) = at (among same (absent k) lits) (among same (present k) lits) (long_after (suc i) ks)
    where
      at : (a p : Bool) → length (clause_after same lits (suc i) ks) ≤ length ks
          → length (numbered a p (suc i) (clause_after same lits (suc i) ks)) ≤ suc (length ks)
      at true p h = omega arith
      at false true h = omega arith
      at false false h = omega arith

  -- and there are at most as many of them
  pub clause_length : (ks : List P) → length (clause same lits ks) ≤ length ks
  unfolding clause
  clause_length ks = long_after 0 ks
