use borrow.Author.Rules.{rules}
use Rattle.kinds.proofs.KindLaws.{edge_written, edge_left, gap_written, gap_left, unknown_left}
use Rattle.kinds.proofs.kind.kind_at.Goals as goal

pub returns-then-is_met_in_place : goal.returns-then-is_met_in_place
returns-then-is_met_in_place c = search (edge_written, rules)

pub returns-then-a-eq1 : goal.returns-then-a-eq1
returns-then-a-eq1 c = search (edge_left, rules)

pub returns-then-is_met_as_image : goal.returns-then-is_met_as_image
returns-then-is_met_as_image c = search (gap_written, rules)

pub returns-then-a-eq0 : goal.returns-then-a-eq0
returns-then-a-eq0 c = search (gap_left, rules)

pub returns : goal.returns
returns c = search (unknown_left, rules)
