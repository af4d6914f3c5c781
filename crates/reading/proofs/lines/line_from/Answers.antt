use Rattle.reading.proofs.EveryLaws.{edges_fit, unknowns_fit, line_made}
use borrow.Author.Rules.{rules}
use Rattle.reading.proofs.lines.line_from.Goals as goal

pub overflow_cast-result-3 : goal.overflow_cast-result-3
overflow_cast-result-3 c = search (unknowns_fit, rules)

pub overflow_cast-result-6 : goal.overflow_cast-result-6
overflow_cast-result-6 c = search (edges_fit, rules)

pub returns : goal.returns
returns c = search (line_made, rules)
