use Rattle.std.proofs.Common.{rules, refl}
use Rattle.text.specs.Page.{written}
use Rattle.text.proofs.Pages.{pushes, stays}
use Rattle.text.proofs.writer.Writer.push.Goals as goal

pub returns-then-self : goal.returns-then-self
unfolding written
returns-then-self c = record { same_buffer = refl; adds = search (pushes, rules) }

pub returns-else-self : goal.returns-else-self
unfolding written
returns-else-self c = record { same_buffer = refl; adds = search (stays, rules) }
