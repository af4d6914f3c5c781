use Rattle.reading.proofs.GraphLaws.{graph_lines}
use borrow.Author.Rules.{rules}
use Rattle.reading.proofs.graph_of.Goals as goal

pub returns : goal.returns
returns c =
    graph_lines _ _ _ _ _ _ _ (search rules) c.order_of-order.ensures.0 c.starts-starts.ensures
    c.fill_lines.ensures.0 c.fill_lines.ensures.1 c.mirror.ensures.0 c.mirror.ensures.1
