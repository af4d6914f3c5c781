use Rattle.text.specs.Text.{bytes_of}
use Rattle.line.specs.Line.{judged_line, verdict_line}
use Rattle.line.proofs.fields_of.Goals as goal

pub returns-in-Smaller : goal.returns-in-Smaller
unfolding bytes_of judged_line verdict_line
returns-in-Smaller c = rw (c.in-Smaller.is, c.first.ensures, c.first-in-Smaller.ensures)

pub returns-in-Nothing : goal.returns-in-Nothing
unfolding bytes_of judged_line verdict_line
returns-in-Nothing c = rw c.in-Nothing.is c.bare.ensures

pub returns-in-Cut : goal.returns-in-Cut
unfolding bytes_of judged_line verdict_line
returns-in-Cut c = rw c.in-Cut.is c.bare-in-Cut.ensures

pub returns-in-Refused : goal.returns-in-Refused
unfolding bytes_of judged_line verdict_line
returns-in-Refused c = rw c.in-Refused.is c.bare-in-Refused.ensures
