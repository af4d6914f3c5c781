use borrow.Author.Rules.{rules}
use Rattle.tables.proofs.Tables.{hex_turns, hex_done}
use Rattle.tables.proofs.hex_at.Goals as goal

pub loop-i-preserved : goal.loop-i-preserved
loop-i-preserved c = search (hex_turns, rules)

pub returns : goal.returns
returns c = search (hex_done, rules)
