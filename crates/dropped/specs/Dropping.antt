-- What can be dropped at the winning pair of a certificate, on a graph in the order that a mode names.
use Rattle.std.specs.Prelude.{ℕ, ◌≡◌, Bool, true, List}
use Rattle.walk.specs.Walk.{won}
use Rattle.needed.specs.Settled
use Rattle.plain.specs.Plain.{same_pair, image, compared_in}
use Rattle.plain.specs.Before.{row_before, before_in}
use Rattle.arrangements.specs.Arrangement.{is_permitted}
use Rattle.composing.specs.Composed.{inverse}
use Rattle.graph.specs.declared.Graph.{Graph}
use Rattle.graph.specs.Graph.{graph_of}
use Rattle.graph.specs.Counts.{entry_at}
use Rattle.graph.specs.WellFormed.{well_formed}
use Rattle.pairs.specs.Pairs.{Pair}
use Rattle.judging.specs.Judging.{walk_all}
use Rattle.kinds.specs.declared.kind.Win.{Win}

-- the graph of the rows of w, in blocks with these starts
abbrev pub graph_in : Win → ℕ → Graph
graph_in w starts = graph_of w.order w.path.rows.edges.now w.path.rows.unknowns.now starts

-- p is permitted and wins at w, and q is its inverse
pub record WinsAt (mode : ℕ) (g : Graph) (p q : List ℕ) (w : Pair) : Type 0 where
  pub well : well_formed g ≡ true
  pub fits : is_permitted g.order g.starts p ≡ true
  pub inverts : q ≡ inverse g.order p
  pub wins : walk_all mode g p ≡ won w

module _ (mode : ℕ) (g : Graph) (p q : List ℕ) (w : Pair) where
  -- the literal at the image of w is needed to win at w, and p wins without it
  abbrev pub image_may : Bool
  image_may = Settled.image_may same_pair (before_in mode) (image p) (image q) (compared_in mode g.order) (entry_at g) w

  -- and that at w
  abbrev pub pair_may : Bool
  pair_may = Settled.pair_may same_pair (before_in mode) (image p) (image q) (compared_in mode g.order) (entry_at g) w

  -- the one with the higher row number is tried first: that at the image goes where it may and w has the lower number, or else where w's stays
  abbrev pub image_goes : Bool
  image_goes = Settled.image_goes same_pair (before_in mode) (image p) (image q) (compared_in mode g.order) (entry_at g) w (row_before w (image p w))

  -- and that at w goes where it may and has the higher number, or else where its image's stays
  abbrev pub pair_goes : Bool
  pair_goes = Settled.pair_goes same_pair (before_in mode) (image p) (image q) (compared_in mode g.order) (entry_at g) w (row_before w (image p w))

  -- whether what stands at w goes, and whether what stands at its image does
  pub record GoneAt (at_pair at_image : Bool) : Type 0 where
    pub pair_told : at_pair ≡ pair_goes
    pub image_told : at_image ≡ image_goes
