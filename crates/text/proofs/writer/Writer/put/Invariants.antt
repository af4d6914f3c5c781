use Rattle.std.proofs.Common.{drop}
use Rattle.text.proofs.Writers.{Left}
use Rattle.text.proofs.writer.Writer.put.Given as goal

abbrev pub invariant-loop-byte : goal.invariant-loop-byte
invariant-loop-byte l = Left l.initial.self l.text l.self (drop l.byte-index l.text)
