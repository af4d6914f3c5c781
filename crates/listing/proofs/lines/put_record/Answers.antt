use borrow.Author.Rules.{rules}
use Rattle.listing.proofs.Turning.{order_given, line_put}
use Rattle.listing.proofs.lines.put_record.Goals as goal

pub returns : goal.returns
returns c =
    line_put _ _ _ _ _ _ _ _ _ _ c.requires c.read-found.ensures (order_given _ _ c.unwrap_or_default-graph.ensures) c.judged_record-judged.ensures c.judged_record-judged.auto.literals c.line-written.ensures c.record_at-taken.ensures
