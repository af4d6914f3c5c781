-- What the code that drops literals at the winning pair comes to.
use Prim.Native.Nat.{ℕ, ◌≤◌, ◌<◌}
use mathlib.Core.Path.{◌≡◌, refl, sym, ap, ap₂, ◌∙◌}
use mathlib.Core.Logic.{◌≢◌}
use mathlib.Core.Bool.{Bool, true, false, not}
use mathlib.Core.List.{List}
use lib.Dec.{eqb}
use Rattle.laws.specs.Test.{both, either, pick}
use Rattle.laws.specs.TestLaws.{second_fails}
use Rattle.needed.specs.Settled
use Rattle.plain.specs.Plain.{pair_of_two, image}
use Rattle.plain.specs.Before.{row_before, before_in}
use Rattle.plain.proofs.Plain.{two_rising, two_falling}
use Rattle.graph.specs.Graph.{graph_of}
use Rattle.arrangements.specs.Arrangement.{at}
use Rattle.pairs.specs.Pairs.{Pair, pair}
use Rattle.turns.specs.Turns.{walk_code}
use Rattle.turns.specs.Next.{pairs_after}
use Rattle.kinds.specs.Kinds.{kind_at}
use Rattle.trials.specs.After.{turn_after}
use Rattle.dropped.specs.Dropping.{WinsAt, image_may, pair_may, GoneAt}
use Rattle.dropped.proofs.Winning.{row_before_lem}
use Rattle.dropped.proofs.Trying.{image_kept, image_tried, pair_kept, pair_tried}

-- ---- the kind of the pair of two

module _ (mode : ℕ) (e u q : List ℕ) (w : Pair) (a b r : ℕ) where
  pub kind_rising : a < b → r ≡ kind_at (before_in mode) e u q w false false (pair a b) → r ≡ kind_at (before_in mode) e u q w false false (pair_of_two a b)
  kind_rising l h = h ∙ ap (kind_at (before_in mode) e u q w false false) (sym (two_rising a b l))

  pub kind_falling : b ≤ a → r ≡ kind_at (before_in mode) e u q w false false (pair b a) → r ≡ kind_at (before_in mode) e u q w false false (pair_of_two a b)
  kind_falling l h = h ∙ ap (kind_at (before_in mode) e u q w false false) (sym (two_falling a b l))

-- ---- what may go

module _ {mode n starts : ℕ} {e u p q : List ℕ} {row column : ℕ} (won_at : WinsAt mode (graph_of n e u starts) p q (pair row column)) where
  -- the walk on without what is left out
  abbrev walks_on : Bool → Bool → ℕ
  walks_on a b = walk_code (turn_after (before_in mode) e u p q (pair row column) a b) (pairs_after mode n (pair row column))

  module _ (c : ℕ) (kind : c ≡ kind_at (before_in mode) e u q (pair row column) false false (pair_of_two row column)) where
    kind_here_lem : kind_at (before_in mode) e u q (pair row column) false false (pair row column) ≡ c
    kind_here_lem = sym (kind ∙ ap (kind_at (before_in mode) e u q (pair row column) false false) (two_rising row column (row_before_lem won_at)))

    pub pair_stands : c ≡ 0 → false ≡ pair_may mode (graph_of n e u starts) p q (pair row column)
    pair_stands z = pair_kept won_at (kind_here_lem ∙ z)

    pub pair_falls : (t : Bool) → c ≢ 0 → t ≡ eqb (walks_on true false) 2 → t ≡ pair_may mode (graph_of n e u starts) p q (pair row column)
    pair_falls t z h = h ∙ pair_tried won_at (λ k. z (sym kind_here_lem ∙ k))

  -- the vertices at the winning pair
  module _ (a b : ℕ) (at_row : a ≡ at p row) (at_column : b ≡ at p column) where
    module _ (c : ℕ) (kind : c ≡ kind_at (before_in mode) e u q (pair row column) false false (pair_of_two a b)) where
      kind_there : kind_at (before_in mode) e u q (pair row column) false false (image p (pair row column)) ≡ c
      kind_there = sym (kind ∙ ap₂ (λ (x y : ℕ). kind_at (before_in mode) e u q (pair row column) false false (pair_of_two x y)) at_row at_column)

      pub image_stands : c ≡ 0 → false ≡ image_may mode (graph_of n e u starts) p q (pair row column)
      image_stands z = image_kept won_at (kind_there ∙ z)

      pub image_falls : (t : Bool) → c ≢ 0 → t ≡ eqb (walks_on false true) 2 → t ≡ image_may mode (graph_of n e u starts) p q (pair row column)
      image_falls t z h = h ∙ image_tried won_at (λ k. z (sym kind_there ∙ k))

-- ---- what goes

-- by whether the image has the higher number, and whether what stands there, and at the pair, may go
goes_image_first : (last im pm : Bool) → last ≡ true → im ≡ true → (false ≡ both pm (not (both last im))) × (true ≡ both im (either last (not pm)))
unfolding both either
goes_image_first last im pm h i = (sym (second_fails pm _ (rw (h, i))), rw (h, i))

goes_pair_then : (last im pm : Bool) → last ≡ true → im ≡ false → (pm ≡ both pm (not (both last im))) × (false ≡ both im (either last (not pm)))
unfolding both
goes_pair_then last im true h i = rw (h, i) (refl, refl)
goes_pair_then last im false h i = rw (h, i) (refl, refl)

goes_pair_first : (last im pm : Bool) → last ≡ false → pm ≡ true → (true ≡ both pm (not (both last im))) × (false ≡ both im (either last (not pm)))
unfolding both either
goes_pair_first last im pm h i = (rw (h, i), sym (second_fails im _ (rw (h, i))))

goes_image_then : (last im pm : Bool) → last ≡ false → pm ≡ false → (false ≡ both pm (not (both last im))) × (im ≡ both im (either last (not pm)))
unfolding both either
goes_image_then last true pm h i = rw (h, i) (refl, refl)
goes_image_then last false pm h i = rw (h, i) (refl, refl)

module _ (mode n starts : ℕ) (e u p q : List ℕ) (row column a b : ℕ) (at_row : a ≡ at p row) (at_column : b ≡ at p column) (last : Bool)
    (is_last : last ≡ before_in 1 (pair row column) (pair_of_two a b)) where
  abbrev im : Bool
  im = image_may mode (graph_of n e u starts) p q (pair row column)

  abbrev pm : Bool
  pm = pair_may mode (graph_of n e u starts) p q (pair row column)

  goes_by : (x y : Bool) → (x ≡ both pm (not (both last im))) × (y ≡ both im (either last (not pm))) → GoneAt mode (graph_of n e u starts) p q (pair row column) x y
  unfolding Settled.image_goes Settled.pair_goes before_in pick
  goes_by x y h =
      let same : last ≡ row_before (pair row column) (image p (pair row column)) = is_last ∙ ap₂ (λ (i j : ℕ). row_before (pair row column) (pair_of_two i j)) at_row at_column in
      record { pair_told = h.0 ∙ ap (λ (l : Bool). both pm (not (both l im))) same; image_told = h.1 ∙ ap (λ (l : Bool). both im (either l (not pm))) same }

  module _ (x : Bool) (may : x ≡ image_may mode (graph_of n e u starts) p q (pair row column)) where
    pub image_goes_first : last ≡ true → x ≡ true → GoneAt mode (graph_of n e u starts) p q (pair row column) false true
    image_goes_first h i = goes_by false true (goes_image_first last im pm h (sym may ∙ i))

    pub image_goes_then : (y : Bool) → y ≡ pair_may mode (graph_of n e u starts) p q (pair row column) → last ≡ false → y ≡ false → GoneAt mode (graph_of n e u starts) p q (pair row column) false x
    image_goes_then y is h i = goes_by false x (let g = goes_image_then last im pm h (sym is ∙ i) in (g.0, may ∙ g.1))

  module _ (y : Bool) (may : y ≡ pair_may mode (graph_of n e u starts) p q (pair row column)) where
    pub pair_goes_first : last ≡ false → y ≡ true → GoneAt mode (graph_of n e u starts) p q (pair row column) true false
    pair_goes_first h i = goes_by true false (goes_pair_first last im pm h (sym may ∙ i))

    pub pair_goes_then : (x : Bool) → x ≡ image_may mode (graph_of n e u starts) p q (pair row column) → last ≡ true → x ≡ false → GoneAt mode (graph_of n e u starts) p q (pair row column) y false
    pair_goes_then x is h i = goes_by y false (let g = goes_pair_then last im pm h (sym is ∙ i) in (may ∙ g.0, g.1))
