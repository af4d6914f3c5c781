use Rattle.std.proofs.Common.{rules, arith, ◌≡◌, drop}
use Rattle.std.proofs.lemmas.Grind.{common_steps}
use Rattle.tables.proofs.Tables.{row_is}
use Rattle.tables.proofs.row_end.Goals as goal

pub returns : goal.returns
returns c =
    let e : c.unwrap_or-rows.result.now ≡ drop c.args.from c.args.table.now = grind (arith, common_steps) in
    rw (row_is, ← e) (search rules)
