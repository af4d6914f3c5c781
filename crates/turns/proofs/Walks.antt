-- Walks by number, and the pair at which an arrangement wins.
use Prim.Native.Nat.{ℕ, ◌≤◌}
use native.Mathlib.Omega.{arith}
use mathlib.Core.Path.{◌≡◌, refl, sym, ap, ap₂, ◌∙◌}
use mathlib.Core.Bool.{Bool}
use mathlib.Core.List.{List, [], ◌∷◌, append-nil}
use lib.Dec.{eqb}
use borrow.Author.Tests.{eq-eqb, ne_eqb}
use Rattle.laws.specs.Test.{pick}
use Rattle.laws.specs.Each.{Each, each_first, each_rest}
use Rattle.laws.specs.Pigeonhole.{Injects}
use Rattle.walk.specs.Walk.{Move, skips, wins, goes_on, drives_zero, drives_one, loses, Outcome, won, lost, still_open, ending}
use Rattle.walk.specs.Free.{free_move, edge_by, gap_by, free}
use Rattle.schemes.specs.Judging.{walk_of}
use Rattle.schemes.proofs.Inverse.{inverse, inverse_before, inverse_reorders}
use Rattle.schemes.proofs.Free.{free_alike, free_first}
use Rattle.plain.specs.Plain.{same_pair, pair_of_two, image, compared_in}
use Rattle.plain.specs.Before.{before_in}
use Rattle.plain.proofs.Modes.{mode_lawful, mode_ordered, mode_given, mode_itself}
use Rattle.graph.specs.declared.Graph.{Graph}
use Rattle.graph.specs.WellFormed.{WellFormed}
use Rattle.arrangements.specs.Arrangement.{at}
use Rattle.pairs.specs.Pairs.{Pair, Between}
use Rattle.graph.specs.Counts.{entry_at}
use Rattle.judging.specs.Judging.{walk_all}
use Rattle.turns.specs.Turns.{turn_at, walk_code, first_pair, Places}
use Rattle.turns.proofs.CodeTurns.{reorders}
use Rattle.turns.proofs.TurnCodes.{code_of, turn_code}

-- ---- an outcome by number

unfoldable pub outcome_code : Outcome Pair → ℕ
outcome_code still_open = 0
outcome_code lost = 1
outcome_code (won k) = 2

-- a move, and then the rest
pub ending_code : (m : Move) (k : Pair) (rest : Outcome Pair) → outcome_code (ending m k rest) ≡ pick (eqb (code_of m) 0) (outcome_code rest) (code_of m)
unfolding outcome_code ending code_of pick
ending_code skips k rest = refl
ending_code wins k rest = refl
ending_code goes_on k rest = refl
ending_code drives_zero k rest = refl
ending_code drives_one k rest = refl
ending_code loses k rest = refl

module _ (before : Pair → Pair → Bool) (v : Pair → ℕ) (img src : Pair → Pair) where
  -- the move of a pair
  abbrev pub move_of : Pair → Move
  move_of k = free_move (same_pair (img k) k) (edge_by same_pair before img src v k) (gap_by same_pair before img src v k)

  -- t tells the moves of ks by number
  abbrev pub Coded : (Pair → ℕ) → List Pair → Type 0
  Coded t ks = Each (λ k. code_of (move_of k) ≡ t k) ks

  -- a walk by number
  pub free_code : (t : Pair → ℕ) (ks : List Pair) → Coded t ks → outcome_code (free same_pair before img src v ks) ≡ walk_code t ks
  unfolding free walk_code outcome_code
  free_code t [] h = refl
  free_code t (k ∷ ks) h =
      ending_code (move_of k) k (free same_pair before img src v ks)
      ∙ ap₂ (λ (c r : ℕ). pick (eqb c 0) r c) (each_first (λ j. code_of (move_of j) ≡ t j) h) (free_code t ks (each_rest (λ j. code_of (move_of j) ≡ t j) h))

  -- where it is won, at the first pair that does not go on
  free_first_pair : (t : Pair → ℕ) (ks : List Pair) → Coded t ks → (k : Pair) → free same_pair before img src v ks ≡ won k → first_pair t ks ≡ k
  unfolding free first_pair pick ending code_of
  free_first_pair t [] h k e = let z : ◌≡◌ {A = ℕ} 0 1 = cc in absurd (omega arith)
  free_first_pair t (j ∷ ks) h k e = at (move_of j) (each_first (λ j. code_of (move_of j) ≡ t j) h) e (free_first_pair t ks (each_rest (λ j. code_of (move_of j) ≡ t j) h) k)
    where
      on : t j ≡ 0 → (free same_pair before img src v ks ≡ won k → first_pair t ks ≡ k) → free same_pair before img src v ks ≡ won k → pick (eqb (t j) 0) (first_pair t ks) j ≡ k
      on z go e = rw (eq-eqb (t j) 0 z) (go e)

      at : (m : Move) → code_of m ≡ t j → ending m j (free same_pair before img src v ks) ≡ won k → (free same_pair before img src v ks ≡ won k → first_pair t ks ≡ k)
          → pick (eqb (t j) 0) (first_pair t ks) j ≡ k
      at skips c e go = on (sym c) go e
      at goes_on c e go = on (sym c) go e
      at drives_zero c e go = on (sym c) go e
      at drives_one c e go = on (sym c) go e
      at wins c e go = let here : j ≡ k = cc in rw (ne_eqb (t j) 0 (λ z. omega (arith, c))) here
      at loses c e go = let z : ◌≡◌ {A = ℕ} 0 1 = cc in absurd (omega arith)

-- ---- a whole arrangement

module _ (g : Graph) (formed : WellFormed g) (p q : List ℕ) (h : Places g.order p q) where
  abbrev n : ℕ
  n = g.order

  pub r : Injects g.order g.order (at p)
  r = reorders g.order p q h

  -- q has the places that the inverse has
  pub places_inverse : (v : ℕ) → 1 ≤ v → v ≤ g.order → at (inverse g.order p) v ≡ at q v
  places_inverse v l k =
      let i = inverse_reorders n p r in
      sym (h.undone (at (inverse n p) v) (i.low v l k) (i.high v l k)) ∙ ap (at q) (inverse_before n p r v l k)

  pub coded : (mode : ℕ) (ks : List Pair) → Each (λ k. Between 1 g.order k) ks → Coded (before_in mode) (entry_at g) (image p) (image q) (turn_at (before_in mode) g.edges g.unknowns p q) ks
  unfolding turn_at
  coded mode ks b k m = turn_code (before_in mode) (mode_itself mode) g formed k.row k.column (at p k.row) (at p k.column) (at q k.row) (at q k.column)

  -- where it is won, the first pair that does not go on is the winning one
  pub winning_first : (mode : ℕ) (k : Pair) → walk_all mode g p ≡ won k → first_pair (turn_at (before_in mode) g.edges g.unknowns p q) (compared_in mode g.order) ≡ k
  unfolding walk_of
  winning_first mode k e =
      free_first_pair (before_in mode) (entry_at g) (image p) (image q) (turn_at (before_in mode) g.edges g.unknowns p q) (compared_in mode n) (coded mode (compared_in mode n) (mode_given mode n)) k
      (sym
      (free_first (mode_lawful mode n) p r (mode_ordered mode n) (entry_at g) (compared_in mode n) [] (sym (append-nil (compared_in mode n)))
      ∙ free_alike same_pair (before_in mode) (entry_at g) (image p) (image p) (image (inverse n p)) (image q) (compared_in mode n) (λ k m. refl)
      (λ k m. let b = mode_given mode n k m in ap (λ j. before_in mode j k) (ap₂ pair_of_two (places_inverse k.row b.from_low (omega arith)) (places_inverse k.column (omega arith) b.to_high))))
      ∙ e)
