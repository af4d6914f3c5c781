use borrow.Author.Rules.{rules}
use Rattle.turns.proofs.CodeTurns.{bits_same, bits_win, bits_own, bits_lose}
use Rattle.turns.proofs.walked.bits_turn.Goals as goal

pub returns-then-a-marks-eq0 : goal.returns-then-a-marks-eq0
returns-then-a-marks-eq0 c = search (bits_same, rules)

pub returns-then-a-eq1 : goal.returns-then-a-eq1
returns-then-a-eq1 c = search (bits_win, rules)

pub returns-then-is_own : goal.returns-then-is_own
returns-then-is_own c = search (bits_own, rules)

pub returns : goal.returns
returns c = search (bits_lose, rules)
