-- What a pair does by bits of rows is its move in the walk without memory.
use Prim.Native.Nat.{ℕ, zero, suc, ◌+◌, ◌-◌, ◌*◌, ◌≤◌, ◌<◌}
use native.Mathlib.Omega.{arith}
use mathlib.Core.Path.{◌≡◌, refl, sym, ap, ◌∙◌}
use mathlib.Core.Bool.{Bool, true, false, not}
use lib.Dec.{eqb, ltb}
use borrow.Author.Tests.{eqb-true, eqb-false}
use Rattle.laws.specs.Test.{both, either, pick}
use Rattle.laws.specs.Bit.{bit}
use Rattle.laws.specs.BitLaws.{bit_small}
use Rattle.walk.specs.Walk.{Move, skips, wins, goes_on, drives_zero, drives_one, loses}
use Rattle.walk.specs.Free.{free_move}
use Rattle.graph.specs.declared.Graph.{Graph}
use Rattle.words.specs.Placed.{row}
use Rattle.graph.specs.Graph.{entry}
use Rattle.graph.specs.WellFormed.{WellFormed}
use Rattle.pairs.specs.Pairs.{Pair, pair}
use Rattle.graph.specs.Counts.{entry_at}
use Rattle.plain.specs.Plain.{same_pair, pair_of_two}
use Rattle.plain.proofs.Plain.{same_pair_tells}
use Rattle.turns.specs.Turns.{count_by, turn_by, turn_of}
use Rattle.judging.proofs.Arrangements.{entry_of_two}

-- what the code's test of a number tells
module _ (c : ℕ) (r : Bool) (e : r ≡ eqb c 0) where
  pub is_zero : r ≡ true → c ≡ 0
  is_zero h = eqb-true c 0 (sym e ∙ h)

  pub not_zero : r ≡ false → c ≡ 0 → ⊥
  not_zero h = eqb-false c 0 (sym e ∙ h)

module _ (c : ℕ) (r : Bool) (e : r ≡ eqb c 2) where
  pub is_two : r ≡ true → c ≡ 2
  is_two h = eqb-true c 2 (sym e ∙ h)

  pub not_two : r ≡ false → c ≡ 2 → ⊥
  not_two h = eqb-false c 2 (sym e ∙ h)

-- a move by number
unfoldable pub code_of : Move → ℕ
code_of skips = 0
code_of goes_on = 0
code_of drives_zero = 0
code_of drives_one = 0
code_of loses = 1
code_of wins = 2

-- ---- how an entry counts

pub count_small : (e u : ℕ) (t : Bool) → e < 2 → count_by e u t ≤ 1
unfolding count_by pick
count_small e u t h = at (eqb u 1) t
  where
    at : (k t : Bool) → pick k (pick t 1 0) e ≤ 1
    at true true = omega arith
    at true false = omega arith
    at false t = omega arith

-- as an edge: it is 1, or unknown and the test holds
count_edge : (e u : ℕ) (t : Bool) → e < 2 → u < 2 → e + 2 * u ≤ 2 → either (eqb (e + 2 * u) 1) (both (ltb 1 (e + 2 * u)) t) ≡ eqb (count_by e u t) 1
unfolding count_by pick both either
count_edge zero zero t a b c = refl
count_edge (suc zero) zero t a b c = refl
count_edge zero (suc zero) true a b c = refl
count_edge zero (suc zero) false a b c = refl
count_edge (suc zero) (suc zero) t a b c = absurd (omega arith)
count_edge (suc (suc e)) u t a b c = absurd (omega arith)
count_edge zero (suc (suc u)) t a b c = absurd (omega arith)
count_edge (suc zero) (suc (suc u)) t a b c = absurd (omega arith)

-- as a gap: it is 0, or unknown and the test fails
count_gap : (e u : ℕ) (t : Bool) → e < 2 → u < 2 → e + 2 * u ≤ 2 → either (eqb (e + 2 * u) 0) (both (ltb 1 (e + 2 * u)) t) ≡ eqb (count_by e u (not t)) 0
unfolding count_by pick both either
count_gap zero zero t a b c = refl
count_gap (suc zero) zero t a b c = refl
count_gap zero (suc zero) true a b c = refl
count_gap zero (suc zero) false a b c = refl
count_gap (suc zero) (suc zero) t a b c = absurd (omega arith)
count_gap (suc (suc e)) u t a b c = absurd (omega arith)
count_gap zero (suc (suc u)) t a b c = absurd (omega arith)
count_gap (suc zero) (suc (suc u)) t a b c = absurd (omega arith)

-- at most as where the test holds
pub count_most : (e u : ℕ) (t : Bool) → count_by e u t ≤ count_by e u true
unfolding count_by pick
count_most e u t = at (eqb u 1) t
  where
    at : (k t : Bool) → pick k (pick t 1 0) e ≤ pick k 1 e
    at true true = omega arith
    at true false = omega arith
    at false t = omega arith

-- ---- the move

move_code : (own : Bool) (a b : ℕ) → a ≤ 1 → b ≤ 1 → (own ≡ true → a ≤ b) → code_of (free_move own (eqb a 1) (eqb b 0)) ≡ turn_by a b own
unfolding code_of free_move turn_by pick
move_code true zero zero ha hb h = refl
move_code true zero (suc zero) ha hb h = refl
move_code true (suc zero) (suc zero) ha hb h = refl
move_code true (suc zero) zero ha hb h = absurd (omega (arith, h refl))
move_code false zero zero ha hb h = refl
move_code false zero (suc zero) ha hb h = refl
move_code false (suc zero) zero ha hb h = refl
move_code false (suc zero) (suc zero) ha hb h = refl
move_code true (suc (suc a)) b ha hb h = absurd (omega arith)
move_code false (suc (suc a)) b ha hb h = absurd (omega arith)
move_code true zero (suc (suc b)) ha hb h = absurd (omega arith)
move_code true (suc zero) (suc (suc b)) ha hb h = absurd (omega arith)
move_code false zero (suc (suc b)) ha hb h = absurd (omega arith)
move_code false (suc zero) (suc (suc b)) ha hb h = absurd (omega arith)

-- by which of two pairs is compared first; none is before itself
module _ (before : Pair → Pair → Bool) (itself : (k : Pair) → before k k ≡ false) (g : Graph) (w : WellFormed g) (i j u v s t : ℕ) where
  abbrev edge : Bool
  edge = either (eqb (entry g i j) 1) (both (ltb 1 (entry g i j)) (before (pair_of_two s t) (pair i j)))

  abbrev gap : Bool
  gap = either (eqb (entry_at g (pair_of_two u v)) 0) (both (ltb 1 (entry_at g (pair_of_two u v))) (before (pair_of_two u v) (pair i j)))

  abbrev own : Bool
  own = same_pair (pair_of_two u v) (pair i j)

  -- the bits of the entries
  abbrev e₁ : ℕ
  e₁ = bit (row g.edges i) (j - 1)

  abbrev u₁ : ℕ
  u₁ = bit (row g.unknowns i) (j - 1)

  abbrev e₂ : ℕ
  e₂ = bit (row g.edges u) (v - 1)

  abbrev u₂ : ℕ
  u₂ = bit (row g.unknowns u) (v - 1)

  -- what is its own image counts at most as its image does
  own_most : own ≡ true → count_by e₁ u₁ (before (pair_of_two s t) (pair i j)) ≤ count_by e₂ u₂ (not (before (pair_of_two u v) (pair i j)))
  own_most o =
      let one : pair_of_two u v ≡ pair i j = same_pair_tells.equal (pair_of_two u v) (pair i j) o in
      let same : entry g u v ≡ entry g i j = sym (entry_of_two g w u v) ∙ ap (entry_at g) one in
      let first : e₂ ≡ e₁ = omega (arith, same, bit_small (row g.edges i) (j - 1), bit_small (row g.edges u) (v - 1), bit_small (row g.unknowns i) (j - 1), bit_small (row g.unknowns u) (v - 1)) in
      let second : u₂ ≡ u₁ = omega (arith, same, bit_small (row g.edges i) (j - 1), bit_small (row g.edges u) (v - 1), bit_small (row g.unknowns i) (j - 1), bit_small (row g.unknowns u) (v - 1)) in
      rw (one, itself (pair i j), first, second) (count_most e₁ u₁ (before (pair_of_two s t) (pair i j)))

  -- the move of (i, j), where u and v stand there and it is the image of the pair of s and t
  pub turn_code : code_of (free_move own edge gap) ≡ turn_of before (row g.edges i) (row g.unknowns i) (row g.edges u) (row g.unknowns u) i j u v s t
  unfolding turn_of
  turn_code =
      let a = count_edge e₁ u₁ (before (pair_of_two s t) (pair i j)) (bit_small _ _) (bit_small _ _) (w.not_both i j) in
      let b = count_gap e₂ u₂ (before (pair_of_two u v) (pair i j)) (bit_small _ _) (bit_small _ _) (w.not_both u v) in
      rw (entry_of_two g w u v, a, b)
      (move_code own (count_by e₁ u₁ (before (pair_of_two s t) (pair i j))) (count_by e₂ u₂ (not (before (pair_of_two u v) (pair i j))))
      (count_small e₁ u₁ _ (bit_small _ _)) (count_small e₂ u₂ _ (bit_small _ _)) own_most)
