-- The count is the rules': the reached beginnings in dictionary order up to the first won one, or all of them if none is won.
use Prim.Native.Nat.{ℕ, suc}
use native.Mathlib.Omega.{arith}
use mathlib.Core.Path.{◌≡◌, sym, ap, ◌∙◌}
use mathlib.Core.Logic.{◌⊎◌}
use mathlib.Core.List.{List, [], ◌∷◌}
use lib.ListN.{length, length-append}
use Rattle.beginnings.specs.Search.{NoneWon, FirstWon, reached, needed, through_won}
use Rattle.beginnings.proofs.Reached.{reached_exactly, reached_rises, reached_unique}
use Rattle.beginnings.proofs.Count.{none_or_first, through_none, through_first}
use Rattle.graph.specs.declared.Graph.{Graph}
use Rattle.rows.specs.Rows.{block_of}
use Rattle.judging.specs.Judging.{judged, steps_for}
use Rattle.judging.specs.InWords.{AllReached}

module _ (mode : ℕ) (g : Graph) where
  -- the list that a search makes is such a list
  pub reached_all : AllReached mode g (reached g.order (block_of g.starts) (judged mode g))
  reached_all = record { exactly = reached_exactly g.order (block_of g.starts) (judged mode g); rising = reached_rises g.order (block_of g.starts) (judged mode g) }

  module _ (bs : List (List ℕ)) (all : AllReached mode g bs) where
    -- and there is no other
    pub reached_alone : bs ≡ reached g.order (block_of g.starts) (judged mode g)
    reached_alone = reached_unique g.order (block_of g.starts) (judged mode g) bs all.rising all.exactly

    -- one of them is the first won one, or none is won
    pub won_or_none : NoneWon (judged mode g) bs ⊎ ((b : List ℕ) × FirstWon (judged mode g) bs b)
    won_or_none = none_or_first (judged mode g) bs

    steps_through : steps_for mode g ≡ length (through_won (judged mode g) bs)
    unfolding needed
    steps_through = ap (λ (l : List (List ℕ)). length (through_won (judged mode g) l)) (sym reached_alone)

    -- if none is won, the steps needed are all of them
    pub count_none : NoneWon (judged mode g) bs → steps_for mode g ≡ length bs
    count_none h = steps_through ∙ ap length (through_none (judged mode g) bs h)

    -- else those up to the first won one, with it
    pub count_first : (b : List ℕ) (f : FirstWon (judged mode g) bs b) → steps_for mode g ≡ suc (length f.before)
    count_first b f =
        steps_through ∙ ap (λ (l : List (List ℕ)). length (through_won (judged mode g) l)) f.split
        ∙ ap length (through_first (judged mode g) f.before b f.after f.none_before f.wins) ∙ omega (arith, length-append f.before (b ∷ []))
