use borrow.Author.Rules.{rules}
use Rattle.turns.proofs.CodeTurns.{turn_same, turn_wins, turn_own, turn_loses}
use Rattle.turns.proofs.walked.turn_by.Goals as goal

pub returns-then-a-b : goal.returns-then-a-b
returns-then-a-b c = search (turn_same, rules)

pub returns-then-a-eq1 : goal.returns-then-a-eq1
returns-then-a-eq1 c = search (turn_wins, rules)

pub returns-then-is_own : goal.returns-then-is_own
returns-then-is_own c = search (turn_own, rules)

pub returns : goal.returns
returns c = search (turn_loses, rules)
