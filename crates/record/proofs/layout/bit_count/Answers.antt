use borrow.Author.Rules.{rules}
use Rattle.record.proofs.SizeLaws.{bits_counted}
use Rattle.record.proofs.layout.bit_count.Goals as goal

pub returns : goal.returns
returns c = search (bits_counted, rules)
