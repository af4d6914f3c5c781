use borrow.Author.Rules.{rules}
use Rattle.census.proofs.Marked.{marked_long}
use Rattle.census.proofs.draw_row.Goals as goal

pub loop-j-preserved : goal.loop-j-preserved
loop-j-preserved c = search (marked_long, rules)
