use Rattle.std.proofs.Common.{rules}
use Rattle.text.specs.Text.{bytes_of}
use Rattle.text.proofs.Poured.{puts_poured}
use Rattle.line.specs.Line.{header_text}
use Rattle.line.proofs.header.Goals as goal

pub returns : goal.returns
unfolding header_text bytes_of
returns c = puts_poured _ _ _ _ _ c.new-writer.ensures.start c.put.ensures (search rules)
