use Prim.Native.Nat.{◌-◌}
use mathlib.Core.Path.{◌≡◌}
use lib.ListN.{length}
use Rattle.listing.proofs.Parts.{SoFar}
use Rattle.listing.proofs.lines.next_part.Given as goal

abbrev pub invariant-loop-taken : goal.invariant-loop-taken
invariant-loop-taken l = (length l.out ≡ length l.initial.out) × SoFar l.book l.at l.number l.out l.used l.from l.n

abbrev pub decreases-loop-taken : goal.decreases-loop-taken
decreases-loop-taken l = length l.book - l.from
