use borrow.Author.Rules.{rules}
use Rattle.turns.proofs.NextLaws.{fewer_left}
use Rattle.turns.proofs.TurnCodes.{is_zero, not_zero}
use Rattle.trials.proofs.CodeAfter.{walk_begins, walk_along, walk_ends, walk_open}
use Rattle.trials.proofs.after.wins_after.Goals as goal

pub loop-next-init : goal.loop-next-init
loop-next-init c = (search rules, search (walk_begins, rules))

pub loop-next-smaller : goal.loop-next-smaller
loop-next-smaller c = search (fewer_left, rules)

pub loop-next-preserved : goal.loop-next-preserved
loop-next-preserved c = (search rules, search (walk_along, is_zero _ _ c.is_open.ensures c.if-not-is_open.false, rules))

pub returns-then-not-is_open : goal.returns-then-not-is_open
returns-then-not-is_open c = search (walk_ends, not_zero _ _ c.is_open.ensures c.if-not-is_open.true, rules)

pub returns : goal.returns
returns c = search (walk_open, rules)
