use borrow.Author.Rules.{rules}
use Rattle.graph.specs.Answers.{totals_of}
use Rattle.graph.proofs.CodeAnswers.{order_low, pairs_fit, edges_within, unknowns_within, totals_are}
use Rattle.graph.proofs.FormedGraph.totals.Goals as goal

pub overflow_sub-pairs : goal.overflow_sub-pairs
overflow_sub-pairs c = order_low _ c.args.self.formed

pub overflow_mul-pairs : goal.overflow_mul-pairs
overflow_mul-pairs c = search (pairs_fit _ c.args.self.formed, rules)

pub overflow_sub-result : goal.overflow_sub-result
overflow_sub-result c = edges_within _ c.args.self.formed _ _ c.ones_in-edges.ensures.0 c.ones_in-unknowns.ensures.0

pub overflow_sub-result-2 : goal.overflow_sub-result-2
overflow_sub-result-2 c = unknowns_within _ c.args.self.formed _ _ c.ones_in-edges.ensures.0 c.ones_in-unknowns.ensures.0

pub returns : goal.returns
unfolding totals_of
returns c = totals_are _ c.args.self.formed _ _ c.ones_in-edges.ensures.0 c.ones_in-unknowns.ensures.0
