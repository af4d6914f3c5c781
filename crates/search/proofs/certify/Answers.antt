use borrow.Author.Rules.{rules}
use Rattle.exploring.proofs.CodeSearch.{order_bounded}
use Rattle.search.proofs.CodeJudge.{taken_long, certificate_tested, certificate_wins, certified_is, clause_is}
use Rattle.search.proofs.certify.Goals as goal

pub complete-requires : goal.complete-requires
complete-requires c = (search rules, search order_bounded, search (taken_long, rules), search rules, search rules, search rules)

pub tell_smaller-requires : goal.tell_smaller-requires
tell_smaller-requires c = (search rules, search (certificate_tested, rules), search (certificate_wins, rules))

pub returns : goal.returns
returns c = (search (certified_is, rules), search (clause_is, rules))
