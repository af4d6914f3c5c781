use borrow.Author.Rules.{rules}
use Rattle.laws.specs.TestLaws.{first_held, first_failed}
use Rattle.kinds.proofs.kind.is_met_as_image.Goals as goal

pub returns-then-comes_before : goal.returns-then-comes_before
returns-then-comes_before c = search (first_held, rules)

pub returns-else-comes_before : goal.returns-else-comes_before
returns-else-comes_before c = search (first_failed, rules)
