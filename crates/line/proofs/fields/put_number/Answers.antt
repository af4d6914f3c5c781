use Rattle.line.proofs.Joined.{space_ends}
use Rattle.line.proofs.fields.put_number.Goals as goal

pub returns : goal.returns
returns c = space_ends c.put_to.ensures c.push.ensures
