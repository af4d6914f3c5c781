-- Survival: a fully drawn graph none of whose permitted copies is earlier breaks no clause ever written for its order and blocks. So of every network the smallest copy is left, whatever clauses were written.
use Prim.Native.Nat.{ℕ}
use mathlib.Core.List.{List}
use lib.ListN.{length}
use Rattle.graph.specs.declared.Graph.{Graph}
use Rattle.graph.specs.WellFormed.{WellFormed}
use Rattle.judging.specs.Order.{FullyDrawn}
use Rattle.graph.specs.Graph.{relabelled}
use Rattle.judging.specs.Answer.{judge_answer}
use Rattle.judging.specs.Drawings.{Smallest, LeastBy, Survives}
use Rattle.judging.proofs.Sound.{written_sound}
use Rattle.judging.proofs.Least.{least_copy, least_smallest}

-- what has no permitted copy earlier survives
pub smallest_survives : (mode : ℕ) (h : Graph) → Smallest mode h → Survives mode h
smallest_survives mode h least g budget buffer f says b =
    least (judge_answer mode g budget (length buffer)).arrangement (written_sound mode g budget buffer says h f b)

-- so the copy that is at or before every permitted copy survives all clauses ever written
pub least_survives : (mode : ℕ) (h : Graph) → WellFormed h → (q : List ℕ) → LeastBy mode h q → Survives mode (relabelled h q)
least_survives mode h w q l = smallest_survives mode (relabelled h q) (least_smallest mode h w q l)

-- and every fully drawn graph has one
pub copy_survives : (mode : ℕ) (h : Graph) → WellFormed h → FullyDrawn h → (q : List ℕ) × LeastBy mode h q × Survives mode (relabelled h q)
copy_survives mode h w d = let s = least_copy mode h w d in (s.0, s.1, least_survives mode h w s.0 s.1)
