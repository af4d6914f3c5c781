use borrow.Author.Rules.{rules}
use Rattle.pairs.specs.Pairs.{pair}
use Rattle.dropped.specs.Dropping.{WinsAt, graph_in}
use Rattle.dropped.proofs.Winning.{order_high, reorders, column_high}
use Rattle.clause.proofs.ClauseByKinds.{clause_counted, clause_written}
use Rattle.clause.proofs.written.write_clause.Goals as goal

pub write_pairs-requires : goal.write_pairs-requires
write_pairs-requires c =
    let a = c.args in
    let w : WinsAt a.win.mode (graph_in a.win a.starts) a.win.path.vertices.now a.win.path.places.now (pair a.win.at.row a.win.at.column) = search rules in
    (order_high w, reorders w, search rules, column_high w, search rules)

pub returns : goal.returns
returns c = (search (clause_counted, rules), search (clause_written, rules))
