use Rattle.reading.proofs.RefusedLaws.{first_on, entry_found, none_found}
use borrow.Author.Rules.{rules}
use Rattle.reading.proofs.held.Held.check_entries.Goals as goal

pub returns-then-entries_after-eq3 : goal.returns-then-entries_after-eq3
returns-then-entries_after-eq3 c = search (entry_found, rules)

pub loop-m-preserved : goal.loop-m-preserved
loop-m-preserved c = search (first_on, rules)

pub returns : goal.returns
returns c = search (none_found, rules)
