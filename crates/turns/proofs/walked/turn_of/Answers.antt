use borrow.Author.Rules.{rules}
use Rattle.turns.proofs.CodeTurns.{turn_by_rows}
use Rattle.turns.proofs.walked.turn_of.Goals as goal

pub returns : goal.returns
returns c = search (turn_by_rows, rules)
