use borrow.Author.Rules.{rules}
use Rattle.turns.proofs.CodeTurns.{first_low, first_high, last_low, last_high, place_first, place_last, turn_is}
use Rattle.turns.proofs.walked.pair_turn.Goals as goal

pub row_of-marks-requires : goal.row_of-marks-requires
row_of-marks-requires c = (search first_low, search first_high)

pub row_of-hidden-requires : goal.row_of-hidden-requires
row_of-hidden-requires c = (search first_low, search first_high)

pub turn_of-requires : goal.turn_of-requires
turn_of-requires c = (search rules, search rules, search rules, search rules, search place_first, search place_last, search first_low, search last_low, search last_high)

pub returns : goal.returns
returns c = search (turn_is, rules)
