use borrow.Author.Rules.{rules}
use Rattle.graph.specs.Lent.{lent}
use Rattle.graph.proofs.Formed.{formed}
use Rattle.search.proofs.CodeJudge.{answers_judged, answers_cramped}
use Rattle.search.proofs.judge_known.Goals as goal

pub check_room-requires : goal.check_room-requires
check_room-requires c = let w = formed _ c.args.formed.formed in (w.order_low, w.order_high)

pub returns-in-Ok : goal.returns-in-Ok
returns-in-Ok c =
    answers_judged _ _ _ _ c.requires c.args.formed.formed _ _ (search rules) c.judge_with_room.ensures.0 c.judge_with_room.ensures.1

pub returns-in-Err : goal.returns-in-Err
returns-in-Err c =
    answers_cramped _ (lent c.args.formed.graph) _ c.args.literals.now c.requires c.args.formed.formed c.in-Err.why _ (search rules) c.refused.ensures (search rules)
