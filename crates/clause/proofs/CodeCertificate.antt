-- What the code does for a certificate: the mask of a path, its completion, its places, and the pair at which it wins.
use Prim.Native.Nat.{ℕ, suc, ◌+◌, ◌-◌, ◌^◌, ◌≤◌, ◌<◌}
use native.Mathlib.Nat.{lt_of_lt_of_le}
use native.Mathlib.Omega.{arith}
use mathlib.Core.Path.{◌≡◌, refl, sym, ap, ap₂, subst, ◌∙◌}
use mathlib.Core.Logic.{◌≢◌}
use mathlib.Core.List.{List, [], ◌++◌, ◌∷◌}
use lib.ListN.{length, get_or, take, drop, length-take, take-append-drop}
use lib.Pow.{pow_mono}
use lib.Seq.{take-suc, take-take, get_or-take}
use borrow.Author.Tests.{eq-eqb, ne_eqb}
use Rattle.laws.specs.Test.{pick}
use Rattle.walk.specs.Walk.{won}
use Rattle.beginnings.specs.Beginning.{Beginning}
use Rattle.beginnings.proofs.Follows.{Follows, follows_start, beginning_follows}
use Rattle.rows.specs.Rows.{block_of}
use Rattle.graph.specs.declared.Graph.{Graph}
use Rattle.graph.specs.WellFormed.{WellFormed}
use Rattle.arrangements.specs.Arrangement.{at, Permitted}
use Rattle.composing.specs.Composed.{inverse}
use Rattle.pairs.specs.Pairs.{Pair, pair}
use Rattle.plain.specs.Plain.{compared_in}
use Rattle.plain.specs.Before.{before_in}
use Rattle.dropped.proofs.Winning.{inverse_places}
use Rattle.stops.specs.Used.{used_mask}
use Rattle.judging.specs.Judging.{walk_all}
use Rattle.turns.specs.Turns.{turn_at, first_pair}
use Rattle.turns.specs.Next.{pairs_after, starting_at}
use Rattle.turns.proofs.NextLaws.{compared_first, compared_none, starting_here, starting_none}
use Rattle.turns.proofs.Walks.{winning_first}
use Rattle.stops.proofs.UsedLaws.{used_more, used_below}

-- ---- the mask of a path

module _ (n starts : ℕ) (path : List ℕ) (depth : ℕ) (b : Beginning n (block_of starts) (take depth path)) (long : length (take depth path) ≡ depth) where
  module _ (i : ℕ) (h : i < depth) where
    place : at (take depth path) (suc i) ≡ get_or path i 0
    place = let e : suc i - 1 ≡ i = omega arith in rw e (get_or-take depth path i 0 h)

    pub path_low : 1 ≤ get_or path i 0
    path_low = rw place at (b.low (suc i) (omega arith) (omega arith))

    pub path_high : n ≤ 32 → get_or path i 0 ≤ 32
    path_high k = omega (arith, rw place at (b.high (suc i) (omega arith) (omega arith)))

    in_path : i < length path
    in_path = omega (arith, length-take depth path)

    module _ (used w : ℕ) (e : used ≡ used_mask (take i path)) (q : w ≡ 2 ^ (get_or path i 0 - 1)) where
      pub used_longer : used + w ≡ used_mask (take (i + 1) path)
      used_longer =
          let k : i + 1 ≡ suc i = omega arith in
          ap₂ ◌+◌ e q ∙ sym (used_more (take i path) (get_or path i 0)) ∙ ap used_mask (sym (take-suc path i 0 in_path) ∙ ap (λ (m : ℕ). take m path) (sym k))

      pub used_small : n ≤ 32 → used + w < 2 ^ 32
      used_small k =
          rw used_longer
          (lt_of_lt_of_le
          (used_below n (block_of starts) (take (i + 1) path)
          (follows_start n (block_of starts) [] (take (i + 1) path) (drop (i + 1) (take depth path))
          (subst (Follows n (block_of starts) [])
          (sym (take-append-drop (i + 1) (take depth path)) ∙ ap (λ (x : List ℕ). x ++ drop (i + 1) (take depth path)) (take-take (i + 1) depth path (omega arith)))
          (beginning_follows n (block_of starts) (take depth path) b))))
          (pow_mono {j = 32} k))

pub used_starts : (path : List ℕ) → 0 ≡ used_mask (take 0 path)
unfolding used_mask
used_starts path = refl

pub used_done : (path : List ℕ) (i depth used : ℕ) → used ≡ used_mask (take i path) → i ≤ depth → depth ≤ i → used ≡ used_mask (take depth path)
used_done path i depth used e a c = let q : i ≡ depth = omega arith in e ∙ ap (λ (m : ℕ). used_mask (take m path)) q

-- ---- the first pair that does not go on

module _ (t : Pair → ℕ) (after : Pair → List Pair) (i j : ℕ) (whole : Pair) (left : first_pair t (starting_at after (pair i j)) ≡ whole) (some : 1 ≤ i) (c : ℕ) (e : c ≡ t (pair i j)) where
  here : starting_at after (pair i j) ≡ pair i j ∷ after (pair i j)
  here = starting_here after i j (λ z. omega arith)

  -- the next one where the pair goes on
  pub first_along : (next : Pair) → c ≡ 0 → after (pair i j) ≡ starting_at after next → first_pair t (starting_at after next) ≡ whole
  unfolding first_pair pick
  first_along next z is = rw (here, eq-eqb (t (pair i j)) 0 (sym e ∙ z), is) at left

  -- the pair itself where it does not
  pub first_here : c ≢ 0 → pair i j ≡ whole
  unfolding first_pair pick
  first_here d = rw (here, ne_eqb (t (pair i j)) 0 (λ z. d (e ∙ z))) at left

-- none where no pair is left
pub first_over : (t : Pair → ℕ) (after : Pair → List Pair) (whole : Pair) → first_pair t (starting_at after (pair 0 0)) ≡ whole → pair 0 0 ≡ whole
unfolding first_pair
first_over t after whole left = rw (starting_none after 0 0 refl) at left

module _ (t : Pair → ℕ) (mode n : ℕ) where
  pub first_begins : 2 ≤ n → first_pair t (starting_at (pairs_after mode n) (pair 1 2)) ≡ first_pair t (compared_in mode n)
  first_begins two = ap (first_pair t) (starting_here (pairs_after mode n) 1 2 (λ z. omega arith) ∙ sym (compared_first mode n two))

  pub first_none : n < 2 → pair 0 0 ≡ first_pair t (compared_in mode n)
  unfolding first_pair
  first_none few = rw (compared_none mode n few)

-- ---- where a certificate wins

-- the pair that is found is that at which the walk is won
pub wins_there : (mode : ℕ) (g : Graph) → WellFormed g → (p q : List ℕ) → Permitted g.order g.starts p → q ≡ inverse g.order p → (k : Pair) → walk_all mode g p ≡ won k
    → (row column : ℕ) → pair row column ≡ first_pair (turn_at (before_in mode) g.edges g.unknowns p q) (compared_in mode g.order) → walk_all mode g p ≡ won (pair row column)
wins_there mode g w p q a e k wins row column f =
    wins ∙ ap won (sym (f ∙ winning_first g w p q (inverse_places g.order g.starts p q w.order_high a e) mode k wins))
