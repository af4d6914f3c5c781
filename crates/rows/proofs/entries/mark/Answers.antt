use borrow.Author.Rules.{rules}
use Rattle.rows.proofs.CodeEntries.{mark_is}
use Rattle.rows.proofs.entries.mark.Goals as goal

pub returns : goal.returns
returns c = search (mark_is, rules)
