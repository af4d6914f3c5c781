use Rattle.reading.proofs.RefusedLaws.{entries_are}
use borrow.Author.Rules.{rules}
use Rattle.reading.proofs.held.Held.entries_after.Goals as goal

pub returns : goal.returns
returns c = search (entries_are, rules)
