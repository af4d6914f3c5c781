use Rattle.numbers.proofs.WordLaws.{eight_is}
use Rattle.numbers.proofs.eight_at.Goals as goal

pub returns : goal.returns
returns c = eight_is c.args.bytes.now c.args.k c.type_inv.bytes _ c.from_be_bytes.ensures
