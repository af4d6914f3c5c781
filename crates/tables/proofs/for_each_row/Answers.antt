use Rattle.std.proofs.Common.{rules, refl, ◌≡◌, arith}
use Rattle.tables.proofs.Tables.{rows_end, rows_turn, rows_stop}
use Rattle.tables.proofs.for_each_row.Goals as goal

pub loop-case-init : goal.loop-case-init
loop-case-init g c = record { left = λ r h. h }

pub returns-then-table-end : goal.returns-then-table-end
returns-then-table-end g c = rows_end _ _ _ c.loop-case.invariant (omega arith)

pub returns-in_err-case : goal.returns-in_err-case
returns-in_err-case g c =
    let e : c.case.result ≡ c.from_residual.result = search rules in
    rw (← e) (rows_stop _ _ _ c.loop-case.invariant _ c.row_end-end.ensures (omega arith) _ (record { shown = _; shows = refl; says = record { met = c.case.ensures } }) (search rules))

pub loop-case-preserved : goal.loop-case-preserved
loop-case-preserved g c = rows_turn _ _ _ c.loop-case.invariant _ c.row_end-end.ensures (omega arith) _ (record { shown = _; shows = refl; says = record { met = c.case.ensures } }) c.in_ok-case.was
