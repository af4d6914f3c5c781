use Prim.Native.Nat.{◌<◌}
use mathlib.Core.Path.{◌≡◌}
use Rattle.laws.specs.Num.{num}
use Rattle.fields.specs.Bits.{bit_of}
use Rattle.fields.proofs.bits.number_at.Given as goal

-- After t turns the number is that of the first t bits.
abbrev pub invariant-loop-t : goal.invariant-loop-t
invariant-loop-t l = (l.made ≡ num (bit_of l.bytes) l.place l.t) × (l.made < 128)
