-- The kinds of pairs tell which entries stay.
use Prim.Native.Nat.{ℕ, zero, suc}
use native.Mathlib.Omega.{arith}
use mathlib.Core.Path.{◌≡◌, refl}
use mathlib.Core.Bool.{Bool, true, false, not}
use mathlib.Core.List.{List}
use lib.Dec.{eqb}
use borrow.Author.Tests.{ne_eqb}
use Rattle.laws.specs.Test.{both, either, pick}
use Rattle.needed.specs.Settled.{up_to, stays, staying}
use Rattle.plain.specs.Plain.{image}
use Rattle.graph.specs.declared.Graph.{Graph}
use Rattle.graph.specs.Counts.{entry_at}
use Rattle.pairs.specs.Pairs.{Pair}
use Rattle.kinds.specs.Kinds.{kind_by, kind_at}

-- the kind of an entry that stays is 1 for 1 and 2 for 0, and any other's is 0
module _ (a : ℕ) (x y : Bool) where
  abbrev kind : ℕ
  kind = pick (eqb a 1) (pick x 1 0) (pick (eqb a 0) (pick y 2 0) 0)

  abbrev stay : Bool
  stay = either (both (eqb a 1) x) (both (eqb a 0) y)

kind_tells : (a : ℕ) (x y : Bool) → (eqb (kind a x y) 1 ≡ eqb (pick (stay a x y) a 2) 1) × (eqb (kind a x y) 2 ≡ eqb (pick (stay a x y) a 2) 0) × (eqb (kind a x y) 0 ≡ not (stay a x y))
unfolding both either pick
kind_tells zero x true = (refl, refl, refl)
kind_tells zero x false = (refl, refl, refl)
kind_tells (suc zero) true y = (refl, refl, refl)
kind_tells (suc zero) false true = (refl, refl, refl)
kind_tells (suc zero) false false = (refl, refl, refl)
kind_tells (suc (suc a)) x y = rw (ne_eqb (suc (suc a)) 1 (λ e. omega arith), ne_eqb (suc (suc a)) 0 (λ e. omega arith)) (refl, refl, refl)

-- at a pair of the rows
module _ (before : Pair → Pair → Bool) (g : Graph) (q : List ℕ) (w : Pair) (a b : Bool) (k : Pair) where
  abbrev kept : ℕ
  kept = staying before (image q) (entry_at g) w a b k

  abbrev code : ℕ
  code = kind_at before g.edges g.unknowns q w a b k

  tells : (eqb code 1 ≡ eqb kept 1) × (eqb code 2 ≡ eqb kept 0) × (eqb code 0 ≡ not (stays before (image q) (entry_at g) w a b k))
  unfolding kind_at kind_by staying stays
  tells = kind_tells (entry_at g k) (both (before k (image q k)) (up_to before a w k)) (both (before (image q k) k) (up_to before b w (image q k)))

  pub kind_edge : eqb (kind_at before g.edges g.unknowns q w a b k) 1 ≡ eqb (staying before (image q) (entry_at g) w a b k) 1
  kind_edge = tells.0

  pub kind_gap : eqb (kind_at before g.edges g.unknowns q w a b k) 2 ≡ eqb (staying before (image q) (entry_at g) w a b k) 0
  kind_gap = tells.1

  -- a pair has kind 0 exactly where its entry does not stay
  pub kind_none : eqb (kind_at before g.edges g.unknowns q w a b k) 0 ≡ not (stays before (image q) (entry_at g) w a b k)
  kind_none = tells.2
