use Rattle.fields.specs.Bits.{bit_of}
use Rattle.reading.specs.Refused.{NoneUpTo}
use Rattle.reading.proofs.held.Held.check_entries.Given as goal

-- After each turn none of the entries so far is refused.
abbrev pub invariant-loop-m : goal.invariant-loop-m
invariant-loop-m l = NoneUpTo (bit_of l.self.bytes.now) l.self.order l.m
