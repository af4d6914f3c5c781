use borrow.Author.Rules.{rules}
use native.Mathlib.Omega.{arith}
use Rattle.exploring.proofs.CodeSearch.{order_bounded}
use Rattle.search.proofs.CodeJudge.{certificate_reorders, certificate_places, wins_at, wins_low, smaller_is}
use Rattle.search.proofs.tell_smaller.Goals as goal

pub inverse_of-places-requires : goal.inverse_of-places-requires
inverse_of-places-requires c =
    let w = c.args.formed.formed in
    (order_bounded _ _ _ _ w, certificate_reorders _ _ _ _ w _ c.requires.1)

pub winning-requires : goal.winning-requires
winning-requires c =
    let w = c.args.formed.formed in
    (order_bounded _ _ _ _ w, certificate_places _ _ _ _ w _ c.requires.1 _ c.inverse_of-places.ensures)

pub unreachable-requires : goal.unreachable-requires
unreachable-requires c =
    let low = wins_low _ _ _ _ c.args.formed.formed _ c.requires.1 _ c.inverse_of-places.ensures _ c.requires.2 0 0 (rw c.in_default.is at c.winning.ensures.0) in
    omega (arith, low)

pub write_clause-count-requires : goal.write_clause-count-requires
write_clause-count-requires c =
    let w = c.args.formed.formed in (
      w,
      c.requires.1,
      c.inverse_of-places.ensures,
      wins_at _ _ _ _ w _ c.requires.1 _ c.inverse_of-places.ensures _ c.requires.2 _ _ (rw c.in-Some.is at c.winning.ensures.0),
      c.requires.0,
    )

pub returns : goal.returns
returns c = (
  smaller_is _ _ _ _ c.args.formed.formed _ c.requires.1 _ c.inverse_of-places.ensures _ c.requires.2 _ _
      (rw c.in-Some.is at c.winning.ensures.0) _ _ c.write_clause-count.ensures.0,
  c.write_clause-count.ensures.1,
)
