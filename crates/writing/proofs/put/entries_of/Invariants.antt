use mathlib.Core.Path.{◌≡◌}
use Rattle.writing.specs.Along.{along}
use Rattle.writing.proofs.put.entries_of.Given as goal

-- After t turns the entries of t columns are there.
abbrev pub invariant-loop-t : goal.invariant-loop-t
invariant-loop-t l = l.made ≡ along l.e l.u l.i l.t
