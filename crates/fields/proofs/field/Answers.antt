use borrow.Author.Rules.{rules}
use Rattle.laws.specs.Test.{both, unless}
use Rattle.fields.specs.Field.{field_answer}
use Rattle.fields.proofs.field.Goals as goal

pub returns-then-not-contains : goal.returns-then-not-contains
unfolding field_answer both unless
returns-then-not-contains c = search rules

pub returns-then-last-bytes : goal.returns-then-last-bytes
unfolding field_answer both unless
returns-then-last-bytes c = search rules

pub returns-else-last-bytes : goal.returns-else-last-bytes
unfolding field_answer both unless
returns-else-last-bytes c = search rules
