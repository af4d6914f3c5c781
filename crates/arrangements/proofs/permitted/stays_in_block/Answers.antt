use borrow.Author.Rules.{rules}
use Rattle.arrangements.proofs.CodeTests.{stays_is}
use Rattle.arrangements.proofs.permitted.stays_in_block.Goals as goal

pub returns : goal.returns
returns c = search (stays_is, rules)
