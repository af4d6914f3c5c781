use borrow.Author.Rules.{rules}
use Rattle.rows.proofs.CodeEntries.{ones_is}
use Rattle.rows.proofs.entries.ones_at.Goals as goal

pub returns : goal.returns
returns c = search (ones_is, rules)
