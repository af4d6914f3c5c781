use mathlib.Core.Path.{◌≡◌}
use Rattle.laws.specs.Num.{num}
use Rattle.rows.specs.Rows.{start_at}
use Rattle.writing.proofs.put.starts_of.Given as goal

-- After t turns the starts of t vertices are there.
abbrev pub invariant-loop-t : goal.invariant-loop-t
invariant-loop-t l = l.made ≡ num (start_at l.starts) 2 l.t
