use borrow.Author.Rules.{rules}
use Rattle.clause.proofs.Completing.{completing_starts, completing_ends, place_below, used_fits, completing_turns}
use Rattle.clause.proofs.certificate.complete.Goals as goal

pub loop-d-init : goal.loop-d-init
loop-d-init c = search completing_starts

pub stored-requires : goal.stored-requires
stored-requires c = search (place_below, rules)

pub power-used-requires : goal.power-used-requires
power-used-requires c = search (place_below, rules)

pub overflow_add-used : goal.overflow_add-used
overflow_add-used c = search (used_fits, rules)

pub loop-d-preserved : goal.loop-d-preserved
loop-d-preserved c = search completing_turns

pub returns : goal.returns
returns c = search (completing_ends, rules)
