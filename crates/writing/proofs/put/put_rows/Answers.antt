use native.Mathlib.Nat.{le_trans}
use Rattle.writing.proofs.Reached.{pushed_later}
use Rattle.writing.proofs.PutLaws.{row_small, row_room, row_pushed, rows_done}
use borrow.Author.Rules.{rules}
use Rattle.writing.proofs.put.put_rows.Goals as goal

pub push-at-requires : goal.push-at-requires
push-at-requires c =
    let reached = c.loop-i.invariant.0 in
    (search rules, search (row_small, rules), row_room _ _ _ _ _ reached (search rules) (search rules))

pub loop-i-preserved : goal.loop-i-preserved
loop-i-preserved c = search (row_pushed, pushed_later, le_trans, rules)

pub returns : goal.returns
returns c = (rows_done _ _ _ _ _ c.loop-i.invariant.0 (search rules) (search rules) (search rules), c.loop-i.invariant.1)
