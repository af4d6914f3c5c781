use Rattle.numbers.proofs.WordLaws.{nothing_past, last_moved}
use borrow.Author.Rules.{rules}
use Rattle.numbers.proofs.last_at.Goals as goal

pub returns-then-given-k : goal.returns-then-given-k
returns-then-given-k c = search (nothing_past, rules)

pub returns : goal.returns
returns c = search (last_moved, rules)
