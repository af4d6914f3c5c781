use borrow.Author.Rules.{rules}
use Rattle.turns.proofs.CodeTurns.{count_known, image_none, image_counts}
use Rattle.turns.proofs.walked.count_there.Goals as goal

pub returns-then-hidden-v-eq0 : goal.returns-then-hidden-v-eq0
returns-then-hidden-v-eq0 c = search (count_known, rules)

pub returns-then-comes_before : goal.returns-then-comes_before
returns-then-comes_before c = search (image_none, rules)

pub returns : goal.returns
returns c = search (image_counts, rules)
