use Prim.Native.Nat.{◌*◌}
use mathlib.Core.Path.{◌≡◌}
use Rattle.laws.specs.Num.{num}
use Rattle.fields.specs.Bits.{bit_of}
use Rattle.numbers.proofs.few_at.Given as goal

-- After t turns the bits of t bytes are there.
abbrev pub invariant-loop-t : goal.invariant-loop-t
invariant-loop-t l = l.made ≡ num (bit_of l.bytes) (8 * l.k) (8 * l.t)
