use borrow.Author.Rules.{rules}
use Rattle.composing.proofs.CodeComposed.{through_is}
use Rattle.composing.proofs.composed.through_at.Goals as goal

pub returns : goal.returns
returns c = search (through_is, rules)
