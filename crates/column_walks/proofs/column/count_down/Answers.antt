use borrow.Author.Rules.{rules}
use Rattle.turns.proofs.CodeTurns.{count_known}
use Rattle.column_walks.proofs.CodeColumns.{down_counts, down_none}
use Rattle.column_walks.proofs.column.count_down.Goals as goal

pub returns-then-doubts-i-eq0 : goal.returns-then-doubts-i-eq0
returns-then-doubts-i-eq0 c = search (count_known, rules)

pub returns-then-is_sourced : goal.returns-then-is_sourced
returns-then-is_sourced c = search (down_counts, rules)

pub returns : goal.returns
returns c = search (down_none, rules)
