use borrow.Author.Rules.{rules}
use Rattle.turns.proofs.CodeTurns.{count_known, source_counts, source_none}
use Rattle.turns.proofs.walked.count_here.Goals as goal

pub returns-then-doubts-j-eq0 : goal.returns-then-doubts-j-eq0
returns-then-doubts-j-eq0 c = search (count_known, rules)

pub returns-then-comes_before : goal.returns-then-comes_before
returns-then-comes_before c = search (source_counts, rules)

pub returns : goal.returns
returns c = search (source_none, rules)
