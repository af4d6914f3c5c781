use borrow.Author.Rules.{rules}
use Rattle.clause.proofs.CodeCertificate.{path_low, path_high, used_longer, used_small, used_starts, used_done}
use Rattle.clause.proofs.certificate.used_mask.Goals as goal

pub loop-i-init : goal.loop-i-init
loop-i-init c = search (used_starts, rules)

pub weight_of-used-requires : goal.weight_of-used-requires
weight_of-used-requires c = (search path_low, search path_high)

pub overflow_add-used : goal.overflow_add-used
overflow_add-used c = search (used_small, rules)

pub loop-i-preserved : goal.loop-i-preserved
loop-i-preserved c = (search rules, search used_longer)

pub returns : goal.returns
returns c = search (used_done, rules)
