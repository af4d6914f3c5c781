use borrow.Author.Rules.{rules}
use Rattle.judging.specs.Answer.{without}
use Rattle.listing.proofs.lines.refused.Goals as goal

pub returns : goal.returns
unfolding without
returns c = search rules
