use Rattle.std.proofs.Common.{rules}
use Rattle.text.proofs.Writers.{left_byte, left_end}
use Rattle.text.proofs.writer.Writer.put.Goals as goal

pub loop-byte-preserved : goal.loop-byte-preserved
loop-byte-preserved c = search (left_byte, rules)

pub returns : goal.returns
returns c = search (left_end, rules)
