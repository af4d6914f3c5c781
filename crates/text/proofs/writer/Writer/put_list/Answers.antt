use Rattle.std.proofs.Common.{rules}
use Rattle.text.proofs.Commas.{listed_none, listed_some, others_less, others_none}
use Rattle.text.proofs.writer.Writer.put_list.Goals as goal

pub returns-in_default : goal.returns-in_default
returns-in_default g c = listed_none g.N.Number.text _ _ _ (search rules) c.push.ensures

pub loop-number-preserved : goal.loop-number-preserved
loop-number-preserved g c = others_less g.N.Number.text _ _ _ _ _ _ _ _ c.loop-number.invariant c.loop-number-test.true c.number-item.is c.push-in-loop-number.ensures c.put_to-in-loop-number.ensures

pub returns : goal.returns
returns g c = listed_some g.N.Number.text _ _ _ _ _ _ (search rules) c.put_to.ensures (others_none g.N.Number.text _ _ _ _ _ c.loop-number.invariant c.loop-number-test.false)
