-- What judging answers, in the rules' words: the reached beginnings, and refused, cut, none or smaller by when each is given.
use Rattle.std.specs.Prelude.{ℕ, ◌≤◌, ◌<◌, ◌≡◌, ◌⊎◌, ◌↔◌, length}
use mathlib.Core.List.{List, Memᴰ}
use Rattle.beginnings.specs.Order.{Rising}
use Rattle.beginnings.specs.Search.{IsReached}
use Rattle.graph.specs.declared.Graph.{Graph}
use Rattle.rows.specs.Rows.{block_of}
use Rattle.graph.specs.WellFormed.{WellFormed}
use Rattle.pairs.specs.Pairs.{Pair, pair, pair_count}
use Rattle.judging.specs.declared.Verdict.TheVariants.{Smaller, Nothing, Cut, Refused}
use Rattle.judging.specs.declared.Judged.{Judged}
use Rattle.judging.specs.Judging.{clause_of, judged, steps_for}
use Rattle.judging.specs.Answer.{without}
use Rattle.judging.specs.Certificates.{Certified, FirstCertified}

-- bs are exactly the beginnings of g all of whose shorter beginnings are open, in dictionary order
pub record AllReached (mode : ℕ) (g : Graph) (bs : List (List ℕ)) : Type 0 where
  pub exactly : (b : List ℕ) → Memᴰ b bs ↔ IsReached g.order (block_of g.starts) (judged mode g) b
  pub rising : Rising bs

-- the answer p, with its winning pair and its clause
abbrev pub smaller_by : (mode : ℕ) → Graph → List ℕ → Pair → Judged
smaller_by mode g p k = record { verdict = Smaller k.row k.column (steps_for mode g); arrangement = p; literals = length (clause_of mode g p) }

-- 1 by rows, 2 by columns
abbrev pub KnownMode : ℕ → Type 0
KnownMode mode = (mode ≡ 1) ⊎ (mode ≡ 2)

-- the mode, the graph and the buffer are such as judging takes
pub record Taken (mode : ℕ) (g : Graph) (room : ℕ) : Type 0 where
  pub known : KnownMode mode
  pub formed : WellFormed g
  pub enough : pair_count g.order ≤ room

-- the answers that the rules give, by when they give them
pub data InWords (mode : ℕ) (g : Graph) (budget room : ℕ) : Judged → Type 0 where
  unknown_mode : ¬ KnownMode mode → InWords mode g budget room (without (Refused 16 0))
  malformed : KnownMode mode → ¬ WellFormed g → InWords mode g budget room (without (Refused 8 0))
  cramped : KnownMode mode → WellFormed g → room < pair_count g.order → InWords mode g budget room (without (Refused 5 0))
  cut_off : Taken mode g room → budget < steps_for mode g → InWords mode g budget room (without (Cut budget))
  none_smaller : Taken mode g room → steps_for mode g ≤ budget → ((p : List ℕ) → ¬ Certified mode g p) → InWords mode g budget room (without (Nothing (steps_for mode g)))
  found_smaller : Taken mode g room → steps_for mode g ≤ budget → {p : List ℕ} {k : Pair} → FirstCertified mode g p k → InWords mode g budget room (smaller_by mode g p k)

-- what goes with the verdict "smaller" at (row, column) with so many steps
pub record GivenSmaller (mode : ℕ) (g : Graph) (budget room row column steps : ℕ) (a : Judged) : Type 0 where
  pub taken : Taken mode g room
  pub reach : steps_for mode g ≤ budget
  pub count : steps ≡ steps_for mode g
  pub first : FirstCertified mode g a.arrangement (pair row column)
  pub literals : a.literals ≡ length (clause_of mode g a.arrangement)
