use Prim.Native.Nat.{◌-◌}
use Rattle.fields.specs.Bits.{bit_of}
use Rattle.reading.specs.Refused.{NoneUpTo}
use Rattle.reading.proofs.held.Held.clear_entries.Given as goal

-- After each turn none of the entries so far is refused.
abbrev pub invariant-loop-clear : goal.invariant-loop-clear
invariant-loop-clear l = NoneUpTo (bit_of l.self.bytes.now) l.self.order l.clear

abbrev pub decreases-loop-clear : goal.decreases-loop-clear
decreases-loop-clear l = l.count - l.clear
