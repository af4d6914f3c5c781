use Rattle.std.proofs.Common.{rules, arith}
use Rattle.text.proofs.Decimals.{decimal_shown}
use Rattle.text.proofs.decimal.U32Number.put_to.Goals as goal

pub returns : goal.returns
returns c = rw (← decimal_shown c.args.self (omega arith)) (search rules)
