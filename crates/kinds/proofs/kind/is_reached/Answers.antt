use borrow.Author.Rules.{rules}
use Rattle.kinds.proofs.KindLaws.{reached_less, reached_whole}
use Rattle.kinds.proofs.kind.is_reached.Goals as goal

pub returns-then-without : goal.returns-then-without
returns-then-without c = search (reached_less, rules)

pub returns : goal.returns
returns c = search (reached_whole, rules)
