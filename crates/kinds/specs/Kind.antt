-- What is written for a pair, as the number by which it is defined.
use Rattle.std.specs.Prelude.{ℕ}
use Rattle.kinds.specs.declared.kind.Kind.{Kind}
use Rattle.kinds.specs.declared.kind.Kind.TheVariants.{Nothing, Not, Pair}

abbrev pub kind_code : Kind → ℕ
kind_code Nothing = 0
kind_code Not = 1
kind_code Pair = 2
