use Rattle.reading.proofs.RefusedLaws.{clear_starts, clear_more}
use borrow.Author.Rules.{rules}
use Rattle.reading.proofs.held.Held.clear_entries.Goals as goal

pub loop-clear-init : goal.loop-clear-init
loop-clear-init c = search (clear_starts, rules)

pub loop-clear-preserved : goal.loop-clear-preserved
loop-clear-preserved c = search (clear_more, rules)
