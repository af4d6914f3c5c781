use Rattle.std.proofs.Common.{rules}
use Rattle.text.proofs.Poured.{puts_poured}
use Rattle.line.proofs.line.Goals as goal

pub returns : goal.returns
returns c = puts_poured _ _ _ _ _ c.new-writer.ensures.start (rw c.fields_of.ensures at c.put_to.ensures) (search rules)
