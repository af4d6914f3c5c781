use borrow.Author.Rules.{rules}
use native.Mathlib.Omega.{arith}
use Rattle.listing.proofs.Parts.{none_yet, ends_refused, takes_some, ends_here, goes_on}
use Rattle.listing.proofs.lines.next_part.Goals as goal

pub loop-taken-init : goal.loop-taken-init
loop-taken-init c = search (none_yet, rules)

pub returns-in_default : goal.returns-in_default
returns-in_default c = ends_refused _ _ _ _ _ _ _ _ _ c.loop-taken.invariant.1 c.put_record-turn.ensures _ c.in_default.is

pub returns-then-from-book : goal.returns-then-from-book
returns-then-from-book c = search (ends_here, rules)

pub loop-taken-smaller : goal.loop-taken-smaller
loop-taken-smaller c =
    omega (arith, takes_some _ _ _ _ _ _ _ _ _ c.loop-taken.invariant.1 c.put_record-turn.ensures _ c.in-Ok.is)

pub loop-taken-preserved : goal.loop-taken-preserved
loop-taken-preserved c =
    (search rules, goes_on _ _ _ _ _ _ _ _ _ c.loop-taken.invariant.1 c.put_record-turn.ensures _ c.in-Ok.is c.if-from-book.false c.if-out-used-lt8192.false)
