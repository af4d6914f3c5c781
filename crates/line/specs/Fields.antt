-- The line of a struct of fields.
use Rattle.std.specs.Prelude.{ℕ, List}
use Rattle.line.specs.declared.fields.Fields.{Fields}
use Rattle.line.specs.Line.{line_of}

-- the line that shows these fields
abbrev pub shown : Fields → List ℕ
shown f = line_of f.number f.order f.verdict.now f.row f.column f.steps f.arrangement.now f.clause.now
