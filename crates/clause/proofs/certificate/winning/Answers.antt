use borrow.Author.Rules.{rules}
use Rattle.turns.proofs.NextLaws.{fewer_left}
use Rattle.turns.proofs.TurnCodes.{is_zero, not_zero}
use Rattle.clause.proofs.CodeCertificate.{first_begins, first_along, first_here, first_over, first_none}
use Rattle.clause.proofs.certificate.winning.Goals as goal

pub returns-then-n-lt2 : goal.returns-then-n-lt2
returns-then-n-lt2 c = (search (first_none, rules), search rules)

pub loop-next-init : goal.loop-next-init
loop-next-init c = (search rules, search (first_begins, rules))

pub returns-then-not-is_open : goal.returns-then-not-is_open
returns-then-not-is_open c = (search (first_here, not_zero _ _ c.is_open.ensures c.if-not-is_open.true, rules), search rules)

pub loop-next-smaller : goal.loop-next-smaller
loop-next-smaller c = search (fewer_left, rules)

pub loop-next-preserved : goal.loop-next-preserved
loop-next-preserved c = (
  search rules,
  first_along _ _ _ _ _ (rw c.in-Some.is at c.loop-next.invariant.1) (search rules) _ c.pair_turn-turn.ensures _
      (is_zero _ _ c.is_open.ensures c.if-not-is_open.false) c.next_pair-next.ensures.0,
)

pub returns : goal.returns
returns c = (search (first_over, rules), search rules)
