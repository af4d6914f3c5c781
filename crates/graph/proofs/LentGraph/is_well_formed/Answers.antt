use borrow.Author.Rules.{rules}
use Rattle.pairs.proofs.VertexLaws.{order_most}
use Rattle.graph.proofs.CodeAnswers.{formed_not_order, formed_not_starts, formed_rows}
use Rattle.graph.proofs.LentGraph.is_well_formed.Goals as goal

pub returns-then-not-order_fits : goal.returns-then-not-order_fits
returns-then-not-order_fits c = search (formed_not_order, rules)

pub starts_fit-requires : goal.starts_fit-requires
starts_fit-requires c = search (order_most, rules)

pub rows_fit-requires : goal.rows_fit-requires
rows_fit-requires c = search (order_most, rules)

pub returns-then-starts_fit : goal.returns-then-starts_fit
returns-then-starts_fit c = search (formed_rows, rules)

pub returns-else-starts_fit : goal.returns-else-starts_fit
returns-else-starts_fit c = search (formed_not_starts, rules)
