use borrow.Author.Rules.{rules}
use Rattle.turns.proofs.TurnCodes.{is_zero, not_zero}
use Rattle.row_walks.proofs.FixedRow.{fixed_stays}
use Rattle.row_walks.proofs.CodeRows.{fixed_goes_on, fixed_ends, row_over}
use Rattle.row_walks.proofs.row.fixed_walk.Goals as goal

pub loop-j-preserved-then-v-j : goal.loop-j-preserved-then-v-j
loop-j-preserved-then-v-j c = (search rules, search rules, search (fixed_stays, rules))

pub loop-j-preserved : goal.loop-j-preserved
loop-j-preserved c = (search rules, search rules, search (fixed_goes_on, is_zero _ _ c.is_open.ensures c.if-not-is_open.false, rules))

pub returns-then-not-is_open : goal.returns-then-not-is_open
returns-then-not-is_open c =
    fixed_ends _ _ _ _ _ _ _ (search rules) c.vertex_at-v.ensures.0 _ _ _ _ _ _ _ c.loop-j.invariant.2
    c.without-sure.ensures c.vertex_at-t.ensures.0 c.chosen-here.ensures c.chosen-there.ensures
    c.bits_turn-turn.ensures (not_zero _ _ c.is_open.ensures c.if-not-is_open.true)

pub returns : goal.returns
returns c = search (row_over, rules)
