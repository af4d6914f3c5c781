use borrow.Author.Rules.{rules}
use Rattle.record.proofs.SizeLaws.{line_counted}
use Rattle.record.proofs.layout.line_place.Goals as goal

pub returns : goal.returns
returns c = search (line_counted, rules)
