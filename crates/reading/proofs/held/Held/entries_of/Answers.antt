use borrow.Author.Rules.{rules}
use Rattle.reading.proofs.LineLaws.{entries_are}
use Rattle.reading.proofs.held.Held.entries_of.Goals as goal

pub returns : goal.returns
returns c = search (entries_are, rules)
