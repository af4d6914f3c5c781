use mathlib.Core.Path.{◌≡◌}
use Rattle.words.specs.Placed.{placed}
use Rattle.fields.specs.Bits.{bit_of}
use Rattle.reading.specs.Lines.{line_in}
use Rattle.reading.proofs.held.Held.fill_lines.Given as goal

-- After i turns the first i lines are there, and zeros.
abbrev pub invariant-loop-i : goal.invariant-loop-i
invariant-loop-i l = (l.unknowns ≡ placed (line_in (bit_of l.self.bytes.now) l.self.order 0) l.i) × (l.edges ≡ placed (line_in (bit_of l.self.bytes.now) l.self.order 1) l.i)
