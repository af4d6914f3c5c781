-- What a pair does, or a walk comes to, as the number by which it is defined.
use Rattle.std.specs.Prelude.{ℕ}
use Rattle.turns.specs.declared.turn.Turn.{Turn}
use Rattle.turns.specs.declared.turn.Turn.TheVariants.{Open, Lost, Won}

abbrev pub turn_code : Turn → ℕ
turn_code Open = 0
turn_code Lost = 1
turn_code Won = 2
