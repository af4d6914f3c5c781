use Rattle.reading.proofs.LineLaws.{lines_start, lines_room, unknowns_turn, edges_turn, lines_done}
use borrow.Author.Rules.{rules}
use Rattle.reading.proofs.held.Held.fill_lines.Goals as goal

pub loop-i-init : goal.loop-i-init
loop-i-init c = search (lines_start, rules)

pub bounds-unknowns-k : goal.bounds-unknowns-k
bounds-unknowns-k c = search (lines_room, rules)

pub bounds-edges-k : goal.bounds-edges-k
bounds-edges-k c = search (lines_room, rules)

pub loop-i-preserved : goal.loop-i-preserved
loop-i-preserved c = search (unknowns_turn, edges_turn, rules)

pub returns : goal.returns
returns c = search (lines_done, rules)
