-- What the code's steps come to, one law for each answer.
use Prim.Native.Nat.{ℕ, ◌-◌, ◌≤◌, ◌<◌}
use native.Mathlib.Omega.{arith}
use mathlib.Core.Path.{◌≡◌, refl, sym, ap, ap₂, ◌∙◌}
use mathlib.Core.Logic.{◌≢◌}
use mathlib.Core.Bool.{Bool, true, false}
use mathlib.Core.List.{List, ◌∷◌}
use lib.Dec.{eqb}
use borrow.Author.Tests.{eq-eqb, ne_eqb}
use Rattle.laws.specs.Compared.{by_below}
use Rattle.laws.specs.Test.{both, pick}
use Rattle.laws.specs.TestLaws.{both_hold, first_fails, second_fails, pick_true, pick_false}
use Rattle.needed.specs.Settled.{up_to}
use Rattle.rows.specs.Rows.{entry_in}
use Rattle.arrangements.specs.Arrangement.{at}
use Rattle.pairs.specs.Pairs.{Pair, pair}
use Rattle.plain.specs.Before.{before_in}
use Rattle.plain.specs.Plain.{same_pair, pair_of_two}
use Rattle.plain.proofs.Modes.{mode_itself}
use Rattle.plain.proofs.Plain.{same_pair_tells, two_rising, two_falling}
use Rattle.turns.specs.Turns.{turn_by, walk_code, Places}
use Rattle.turns.specs.Next.{pairs_after, starting_at}
use Rattle.turns.proofs.CodeTurns.{place_first, place_last}
use Rattle.turns.proofs.NextLaws.{starting_here, starting_none}
use Rattle.trials.specs.After.{count_after, turn_after}

-- ---- how an entry counts

module _ (value a : ℕ) (first reaches b : Bool) (is_first : b ≡ first) where
  pub counts_last : b ≡ false → value ≡ count_after value a first reaches
  unfolding count_after
  counts_last f = sym (pick_false first _ value (sym is_first ∙ f))

  module _ (comes_first : b ≡ true) (c : Bool) (is_reached_lem : c ≡ reaches) where
    counts_first : count_after value a first reaches ≡ pick (both (eqb a value) reaches) value (1 - value)
    unfolding count_after
    counts_first = pick_true first _ value (sym is_first ∙ comes_first)

    pub counts_unreached : c ≡ false → 1 - value ≡ count_after value a first reaches
    counts_unreached f = sym (counts_first ∙ pick_false _ value (1 - value) (second_fails (eqb a value) reaches (sym is_reached_lem ∙ f)))

    pub counts_stays : c ≡ true → a ≡ value → value ≡ count_after value a first reaches
    counts_stays t z = sym (counts_first ∙ pick_true _ value (1 - value) (both_hold (eqb a value) reaches (eq-eqb a value z) (sym is_reached_lem ∙ t)))

    pub counts_other : a ≢ value → 1 - value ≡ count_after value a first reaches
    counts_other d = sym (counts_first ∙ pick_false _ value (1 - value) (first_fails (eqb a value) reaches (ne_eqb a value d)))

-- ---- what a pair does

-- the vertices of (i, j) have places
module _ (n : ℕ) (p q : List ℕ) (h : Places n p q) (i j s : ℕ) (low : 1 ≤ i) (rising : i < j) (high : j ≤ n) where
  pub first_placed : s ≡ at q i → 1 ≤ s
  first_placed e = rw e (place_first n p q h i j low rising high)

  pub last_placed : s ≡ at q j → 1 ≤ s
  last_placed e = rw e (place_last n p q h i j low rising high)

-- a pair that is its own image goes on where its entry counts as a gap
pub gap_passes : (a b : ℕ) (own : Bool) → own ≡ true → a ≡ 0 → 0 ≡ turn_by a b own
unfolding turn_by pick
gap_passes a b own e z = rw (e, z) (at (eqb 0 b))
  where
    at : (s : Bool) → ◌≡◌ {A = ℕ} 0 (pick s 0 0)
    at true = refl
    at false = refl

-- it is its own source too
module _ (n : ℕ) (p q : List ℕ) (h : Places n p q) (i j : ℕ) (low : 1 ≤ i) (rising : i < j) (high : j ≤ n) (u v : ℕ) (first : u ≡ at p i) (last : v ≡ at p j) where
  own_source : pair_of_two u v ≡ pair i j → pair_of_two (at q i) (at q j) ≡ pair i j
  own_source e = by_below u v straight crossed
    where
      row_is : (pair_of_two u v).row ≡ i
      row_is = ap (λ (k : Pair). k.row) e

      column_is : (pair_of_two u v).column ≡ j
      column_is = ap (λ (k : Pair). k.column) e

      straight : u < v → pair_of_two (at q i) (at q j) ≡ pair i j
      straight l =
          let a : at p i ≡ i = sym first ∙ ap (λ (k : Pair). k.row) (sym (two_rising u v l)) ∙ row_is in
          let b : at p j ≡ j = sym last ∙ ap (λ (k : Pair). k.column) (sym (two_rising u v l)) ∙ column_is in
          ap₂ pair_of_two (ap (at q) (sym a) ∙ h.undone i low (omega arith)) (ap (at q) (sym b) ∙ h.undone j (omega arith) high) ∙ two_rising i j rising

      crossed : v ≤ u → pair_of_two (at q i) (at q j) ≡ pair i j
      crossed l =
          let a : at p j ≡ i = sym last ∙ ap (λ (k : Pair). k.row) (sym (two_falling u v l)) ∙ row_is in
          let b : at p i ≡ j = sym first ∙ ap (λ (k : Pair). k.column) (sym (two_falling u v l)) ∙ column_is in
          ap₂ pair_of_two (ap (at q) (sym a) ∙ h.undone j (omega arith) high) (ap (at q) (sym b) ∙ h.undone i low (omega arith)) ∙ two_falling j i (omega arith)

  pub own_passes : (mode : ℕ) (edges unknowns : List ℕ) (w : Pair) (pair_out image_out c : Bool) → c ≡ same_pair (pair_of_two u v) (pair i j) → c ≡ true
      → 0 ≡ turn_after (before_in mode) edges unknowns p q w pair_out image_out (pair i j)
  unfolding turn_after count_after
  own_passes mode edges unknowns w pair_out image_out c is t =
      let own : pair_of_two (at q i) (at q j) ≡ pair i j = own_source (same_pair_tells.equal (pair_of_two u v) (pair i j) (sym is ∙ t)) in
      gap_passes _ _ _ (rw (← first, ← last) (sym is ∙ t)) (pick_false _ _ 0 (ap (λ (k : Pair). before_in mode k (pair i j)) own ∙ mode_itself mode (pair i j)))

pub turn_is : (mode : ℕ) (edges unknowns p q : List ℕ) (w : Pair) (pair_out image_out : Bool) (i j s t u v here there a b r : ℕ) → s ≡ at q i → t ≡ at q j → u ≡ at p i → v ≡ at p j
    → here ≡ entry_in edges unknowns i j → there ≡ entry_in edges unknowns u v → a ≡ count_after 0 here (before_in mode (pair_of_two s t) (pair i j)) (up_to (before_in mode) image_out w (pair_of_two s t))
    → b ≡ count_after 1 there (before_in mode (pair_of_two u v) (pair i j)) (up_to (before_in mode) pair_out w (pair_of_two u v))
    → r ≡ turn_by a b (same_pair (pair_of_two u v) (pair i j)) → r ≡ turn_after (before_in mode) edges unknowns p q w pair_out image_out (pair i j)
unfolding turn_after
turn_is mode edges unknowns p q w pair_out image_out i j s t u v here there a b r ps pt pu pv ph pr pa pb h = h ∙ rw (pa, pb, ph, pr, ps, pt, pu, pv)

-- ---- along the pairs

pub walk_begins : (t : Pair → ℕ) (mode n : ℕ) (k next : Pair) → pairs_after mode n k ≡ starting_at (pairs_after mode n) next
    → walk_code t (starting_at (pairs_after mode n) next) ≡ walk_code t (pairs_after mode n k)
walk_begins t mode n k next e = ap (walk_code t) (sym e)

module _ (t : Pair → ℕ) (after : Pair → List Pair) (i j whole : ℕ) (left : walk_code t (starting_at after (pair i j)) ≡ whole) where
  module _ (some : 1 ≤ i) (c : ℕ) (e : c ≡ t (pair i j)) where
    here : starting_at after (pair i j) ≡ pair i j ∷ after (pair i j)
    here = starting_here after i j (λ z. omega arith)

    -- the next one where the pair goes on
    pub walk_along : (next : Pair) → c ≡ 0 → after (pair i j) ≡ starting_at after next → walk_code t (starting_at after next) ≡ whole
    unfolding walk_code pick
    walk_along next z is = rw (here, eq-eqb (t (pair i j)) 0 (sym e ∙ z), is) at left

    -- the end where it does not
    pub walk_ends : c ≢ 0 → (r : Bool) → r ≡ eqb c 2 → r ≡ eqb whole 2
    unfolding walk_code pick
    walk_ends d r h = h ∙ ap (λ (x : ℕ). eqb x 2) (e ∙ (rw (here, ne_eqb (t (pair i j)) 0 (λ z. d (e ∙ z))) at left))

-- the end where no pair is left
pub walk_open : (t : Pair → ℕ) (after : Pair → List Pair) (whole : ℕ) → walk_code t (starting_at after (pair 0 0)) ≡ whole → false ≡ eqb whole 2
unfolding walk_code
walk_open t after whole left = ap (λ (x : ℕ). eqb x 2) (rw (starting_none after 0 0 refl) at left)
