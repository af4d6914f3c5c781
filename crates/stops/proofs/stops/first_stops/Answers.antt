use borrow.Author.Rules.{rules}
use Rattle.stops.proofs.CodeStops.{made_begin, made_more, made_all}
use Rattle.stops.proofs.stops.first_stops.Goals as goal

pub loop-i-init : goal.loop-i-init
loop-i-init c = (search rules, search made_begin)

pub loop-i-preserved : goal.loop-i-preserved
loop-i-preserved c = (
  search rules,
  made_more _ _ _ _ _ _ _ _ _ _ _ _ c.loop-i.invariant.1 c.loop-i.invariant.0 c.loop-i-test.true
      c.requires.0 c.row_of-ones.ensures
      c.row_of-doubts.ensures c.row_of-marks.ensures c.row_of-hidden.ensures c.stops_of.ensures,
)

pub returns : goal.returns
returns c = search (made_all, rules)
