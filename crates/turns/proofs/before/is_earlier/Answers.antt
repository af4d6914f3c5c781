use borrow.Author.Rules.{rules}
use Rattle.turns.proofs.CodeTurns.{earlier_along, earlier_less}
use Rattle.turns.proofs.before.is_earlier.Goals as goal

pub returns-then-a-c : goal.returns-then-a-c
returns-then-a-c c = search (earlier_along, rules)

pub returns : goal.returns
returns c = search (earlier_less, rules)
