use Prim.Native.Nat.{◌-◌, ◌≤◌}
use Rattle.census.proofs.tally_all.Given as goal

abbrev pub invariant-loop-code : goal.invariant-loop-code
invariant-loop-code l = (l.smallest ≤ l.code) × (l.connected ≤ l.code) × (l.code ≤ l.codes)

abbrev pub decreases-loop-code : goal.decreases-loop-code
decreases-loop-code l = l.codes - l.code
