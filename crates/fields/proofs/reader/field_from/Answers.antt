use borrow.Author.Rules.{rules}
use Rattle.laws.specs.Test.{unless}
use Rattle.fields.specs.Reader.{taken_at}
use Rattle.fields.proofs.reader.field_from.Goals as goal

pub returns-then-is_err : goal.returns-then-is_err
unfolding taken_at unless
returns-then-is_err c = search rules

pub returns-in-Some : goal.returns-in-Some
unfolding taken_at unless
returns-in-Some c = search rules

pub returns-in-None : goal.returns-in-None
unfolding taken_at unless
returns-in-None c = search rules
