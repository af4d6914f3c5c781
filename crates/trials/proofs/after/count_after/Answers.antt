use borrow.Author.Rules.{rules}
use Rattle.trials.proofs.CodeAfter.{counts_last, counts_unreached, counts_stays, counts_other}
use Rattle.trials.proofs.after.count_after.Goals as goal

pub returns-then-entry-value : goal.returns-then-entry-value
returns-then-entry-value c = search (counts_stays, rules)

pub returns-then-is_reached_of : goal.returns-then-is_reached_of
returns-then-is_reached_of c = search (counts_other, rules)

pub returns-then-comes_before : goal.returns-then-comes_before
returns-then-comes_before c = search (counts_unreached, rules)

pub returns : goal.returns
returns c = search (counts_last, rules)
