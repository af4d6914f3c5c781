use Rattle.std.proofs.Common.{drop}
use Rattle.text.specs.Lists.{others}
use Rattle.text.proofs.Writers.{Left}
use Rattle.text.proofs.writer.Writer.put_list.Given as goal

abbrev pub invariant-loop-number : goal.invariant-loop-number
invariant-loop-number g l = Left l.initial.self (others g.N.Number.text l.others) l.self (others g.N.Number.text (drop l.number-index l.others))
