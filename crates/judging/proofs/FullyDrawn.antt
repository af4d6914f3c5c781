-- Which graphs are fully drawn.
use Prim.Native.Nat.{ℕ, zero, suc, ◌≤◌, ◌<◌}
use native.Mathlib.Omega.{arith}
use mathlib.Core.List.{List}
use Rattle.laws.specs.Compared.{by_below, by_order}
use Rattle.arrangements.specs.Arrangement.{at}
use Rattle.graph.specs.declared.Graph.{Graph}
use Rattle.graph.specs.Graph.{entry, relabelled}
use Rattle.graph.specs.WellFormed.{WellFormed}
use Rattle.graph.proofs.Relabelling.{relabelled_order, relabelled_entry, relabelled_formed}
use Rattle.judging.specs.Order.{FullyDrawn}

-- a well-formed graph with no unknown above the diagonal is fully drawn
pub fully_drawn_by : (g : Graph) → WellFormed g → ((i j : ℕ) → 1 ≤ i → i < j → j ≤ g.order → entry g i j ≤ 1) → FullyDrawn g
fully_drawn_by g w upper = record { known = known₀ }
  where
    known₁ : (i j : ℕ) → 1 ≤ i → 1 ≤ j → entry g i j ≤ 1
    known₁ i j li lj =
        by_order i j
        (λ l. by_below g.order j (λ p. omega (arith, w.none_past i j p)) (λ h. upper i j li l h))
        (λ e. rw e (omega (arith, w.no_loop j)))
        (λ l. rw (w.symmetric i j) (by_below g.order i (λ p. omega (arith, w.none_past j i p)) (λ h. upper j i lj l h)))

    known₀ : (i j : ℕ) → entry g i j ≤ 1
    known₀ zero zero = known₁ 1 1 (omega arith) (omega arith)
    known₀ zero (suc j) = known₁ 1 (suc j) (omega arith) (omega arith)
    known₀ (suc i) zero = known₁ (suc i) 1 (omega arith) (omega arith)
    known₀ (suc i) (suc j) = known₁ (suc i) (suc j) (omega arith) (omega arith)

-- a fully drawn graph is so when relabelled
pub relabelled_drawn : (g : Graph) (p : List ℕ) → WellFormed g → FullyDrawn g → FullyDrawn (relabelled g p)
relabelled_drawn g p w d =
    fully_drawn_by (relabelled g p) (relabelled_formed g p w)
    (λ i j li l hj.
    let h : j ≤ g.order = rw (relabelled_order g p w) at hj in
    rw (relabelled_entry g p w i j li (omega arith) (omega arith) h) (d.known (at p i) (at p j)))
