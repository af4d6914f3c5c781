use borrow.Author.Rules.{rules}
use Rattle.reading.proofs.RestLaws.{rest_is, rest_from}
use Rattle.reading.proofs.rest.Goals as goal

pub returns : goal.returns
returns c = search (rest_is, rest_from, rules)
