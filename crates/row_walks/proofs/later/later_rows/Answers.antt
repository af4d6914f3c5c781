use borrow.Author.Rules.{rules}
use Rattle.row_walks.proofs.AlikeRows.{row_low, row_high, later_more, later_again}
use Rattle.row_walks.proofs.CodeRows.{rows_go_on, rows_pass, rows_end, rows_over}
use Rattle.turns.proofs.TurnCodes.{is_zero, not_zero}
use Rattle.row_walks.proofs.later.later_rows.Goals as goal

pub without_place-later-requires : goal.without_place-later-requires
without_place-later-requires c = (search rules, search rules, search row_low, search row_high)

pub is_passed-requires : goal.is_passed-requires
is_passed-requires c = (search rules, search rules, search rules, search rules, search later_more)

pub loop-i-preserved-then-is_passed : goal.loop-i-preserved-then-is_passed
loop-i-preserved-then-is_passed c = (
  search rules,
  search later_again,
  rows_pass _ _ _ _ c.loop-i.invariant.2 _ c.loop-i-test.true
      (λ y. c.is_passed.ensures y _) c.if-is_passed.true,
)

pub row_walk-turn-requires : goal.row_walk-turn-requires
row_walk-turn-requires c = (search rules, search rules, search rules, search rules, search later_more)

pub loop-i-preserved : goal.loop-i-preserved
loop-i-preserved c = (
  search rules,
  search later_again,
  rows_go_on _ _ _ _ c.loop-i.invariant.2 _ c.loop-i-test.true
      c.row_walk-turn.ensures (is_zero _ _ c.is_open.ensures c.if-not-is_open.false),
)

pub returns-then-not-is_open : goal.returns-then-not-is_open
returns-then-not-is_open c =
    rows_end _ _ _ _ c.loop-i.invariant.2 _ (search rules) c.row_walk-turn.ensures
    (not_zero _ _ c.is_open.ensures c.if-not-is_open.true)

pub returns : goal.returns
returns c = search (rows_over, rules)
