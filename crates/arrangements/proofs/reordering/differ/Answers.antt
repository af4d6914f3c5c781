use borrow.Author.Rules.{rules}
use Rattle.arrangements.proofs.CodeTests.{differs_is}
use Rattle.arrangements.proofs.reordering.differ.Goals as goal

pub returns : goal.returns
returns c = search (differs_is, rules)
