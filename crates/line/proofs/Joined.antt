-- The code of a line, part after part.
use Rattle.std.proofs.Common.{ℕ, List, [], ◌∷◌}
use Rattle.text.specs.declared.writer.Writer.{Writer}
use Rattle.text.specs.Writer.{Puts}
use Rattle.text.proofs.Writers.{puts_append}
use Rattle.line.specs.Line.{spaced}

-- a field and its space
pub space_ends : {p q r : Writer} {xs : List ℕ} → Puts p xs q → Puts q (32 ∷ []) r → Puts p (spaced xs) r
unfolding spaced
space_ends a b = puts_append a b
