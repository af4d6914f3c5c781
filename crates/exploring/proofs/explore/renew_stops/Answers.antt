use borrow.Author.Rules.{rules}
use Rattle.exploring.proofs.explore.renew_stops.Goals as goal

pub returns-then-mode-eq2 : goal.returns-then-mode-eq2
returns-then-mode-eq2 c = (λ rows. absurd (rows c.if-mode-eq2.true), search rules)

pub set_stops-requires : goal.set_stops-requires
set_stops-requires c = (search rules, search rules, search rules, search rules, search rules, c.requires.5 c.if-mode-eq2.false)

pub returns : goal.returns
returns c = (λ rows. c.set_stops.ensures.0, search rules)
