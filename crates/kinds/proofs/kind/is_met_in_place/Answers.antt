use borrow.Author.Rules.{rules}
use Rattle.laws.specs.TestLaws.{first_held, first_failed}
use Rattle.kinds.proofs.kind.is_met_in_place.Goals as goal

pub returns-then-goes_before : goal.returns-then-goes_before
returns-then-goes_before c = search (first_held, rules)

pub returns-else-goes_before : goal.returns-else-goes_before
returns-else-goes_before c = search (first_failed, rules)
