use borrow.Author.Rules.{rules}
use Rattle.rows.proofs.CodeEntries.{ones_small}
use Rattle.rows.proofs.entries.ones_of.Goals as goal

pub returns : goal.returns
returns c = search (ones_small, rules)
