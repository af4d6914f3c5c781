use Rattle.numbers.proofs.WordLaws.{whole_fits, bits_are}
use borrow.Author.Rules.{rules}
use Rattle.numbers.proofs.bits_at.Goals as goal

pub overflow_add-whole : goal.overflow_add-whole
overflow_add-whole c = search (whole_fits, rules)

pub returns : goal.returns
returns c = search (bits_are, rules)
