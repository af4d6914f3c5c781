use Rattle.text.proofs.Writers.{puts_append}
use Rattle.line.specs.Line.{line_of}
use Rattle.line.proofs.Joined.{space_ends}
use Rattle.line.proofs.fields.Fields.put_to.Goals as goal

pub returns : goal.returns
unfolding line_of
returns c =
    puts_append c.put_number.ensures (puts_append c.put_number-2.ensures (puts_append (space_ends c.put.ensures c.push.ensures)
    (puts_append c.put_number-3.ensures (puts_append c.put_number-4.ensures (puts_append c.put_number-5.ensures
    (puts_append (space_ends c.put_list.ensures c.push-2.ensures) (puts_append c.put_list-2.ensures c.push-3.ensures)))))))
