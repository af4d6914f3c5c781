use borrow.Author.Rules.{rules}
use Rattle.turns.proofs.CodeTurns.{first_low, first_high, last_low, last_high}
use Rattle.trials.proofs.CodeAfter.{first_placed, last_placed, own_passes, turn_is}
use Rattle.trials.proofs.after.turn_after.Goals as goal

pub returns-then-is_own : goal.returns-then-is_own
returns-then-is_own c = search own_passes

pub entry_in-other-requires : goal.entry_in-other-requires
entry_in-other-requires c = (search first_low, search first_high, search last_low, search last_high)

pub count_after-a-requires : goal.count_after-a-requires
count_after-a-requires c = (search rules, search first_placed, search last_placed)

pub count_after-b-requires : goal.count_after-b-requires
count_after-b-requires c = (search rules, search first_low, search last_low)

pub returns : goal.returns
returns c = search (turn_is, rules)
