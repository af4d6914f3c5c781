use borrow.Author.Rules.{rules}
use Rattle.turns.proofs.TurnCodes.{is_zero, not_zero}
use Rattle.row_walks.proofs.CodeRows.{words_go_on, words_end, row_over}
use Rattle.row_walks.proofs.row.words_walk.Goals as goal

pub loop-j-preserved : goal.loop-j-preserved
loop-j-preserved c = (search rules, search rules, search (words_go_on, is_zero _ _ c.is_open.ensures c.if-not-is_open.false, rules))

pub returns-then-not-is_open : goal.returns-then-not-is_open
returns-then-not-is_open c =
    words_end _ _ _ _ _ _ _ (search rules) c.vertex_at-v.ensures.0 _ _ _ c.loop-j.invariant.2 c.vertex_at-u.ensures.0
    c.bits_turn-turn.ensures (not_zero _ _ c.is_open.ensures c.if-not-is_open.true)

pub returns : goal.returns
returns c = search (row_over, rules)
