use borrow.Author.Rules.{rules}
use Rattle.record.proofs.SizeLaws.{bytes_counted}
use Rattle.record.proofs.layout.byte_count.Goals as goal

pub returns : goal.returns
returns c = search (bytes_counted, rules)
