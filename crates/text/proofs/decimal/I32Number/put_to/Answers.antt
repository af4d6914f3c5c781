use Rattle.std.proofs.Common.{◌≡◌, sym, ◌∙◌, to_z, of_z, w32, unsigned_abs}
use Rattle.std.specs.Int.{is_negative}
use mir.Facts.{to_z-of_z}
use Rattle.text.proofs.Signs.{signed_negative, signed_positive}
use Rattle.text.proofs.decimal.I32Number.put_to.Goals as goal
use Rattle.text.proofs.decimal.I32Number.put_to.Goals.{then-is_negative, else-is_negative}

pub returns : goal.returns
returns c =
    let read : to_z w32 (of_z w32 c.args.self) ≡ c.args.self = to_z-of_z c.ranges.self in
    let sign : c.is_negative.result ≡ is_negative c.args.self = rw read at c.is_negative.ensures in
    let size : c.unsigned_abs.result ≡ unsigned_abs c.args.self = rw read at c.unsigned_abs.ensures.value in
    elim c.if-is_negative.branch [
      | then-is_negative w ↦ signed_negative _ _ _ _ (sym sign ∙ w.if-is_negative.true) w.push.ensures (rw (← size, ← w.writer-is) c.put_to.ensures)
      | else-is_negative w ↦ signed_positive _ _ _ (sym sign ∙ w.if-is_negative.false) (rw (← size, ← w.writer-is) c.put_to.ensures)
    ]
