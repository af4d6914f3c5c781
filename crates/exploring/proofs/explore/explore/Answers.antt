use borrow.Author.Rules.{rules}
use mathlib.Core.Path.{refl, ap}
use Rattle.turns.specs.Turn.{turn_code}
use Rattle.graph.proofs.Formed.{formed}
use Rattle.exploring.proofs.Searching.{begins}
use Rattle.exploring.proofs.Trying.{next_kept}
use Rattle.exploring.proofs.CodeSearch.{path_kept, ends_none, last_low, last_high, last_used, climbs, ends_cut, low_place, mask_holds, used_fits, tries, longer_within, longer_places, first_low, first_high, judges, ends_won, tries_on, goes_deeper, room_deeper, next_fits}
use Rattle.exploring.proofs.explore.explore.Goals as goal

pub loop-left-init : goal.loop-left-init
loop-left-init c = search (begins, formed)

pub returns-then-depth-eq0 : goal.returns-then-depth-eq0
returns-then-depth-eq0 c = (search ends_none, search path_kept, search rules)

pub weight_of-used-requires : goal.weight_of-used-requires
weight_of-used-requires c = (search last_low, search last_high)

pub overflow_sub-used : goal.overflow_sub-used
overflow_sub-used c = search (last_used, rules)

pub loop-left-preserved-then-left-eq0 : goal.loop-left-preserved-then-left-eq0
loop-left-preserved-then-left-eq0 c = search climbs

pub returns-then-steps-budget : goal.returns-then-steps-budget
returns-then-steps-budget c = (search ends_cut, search path_kept, search rules)

pub power-weight-requires : goal.power-weight-requires
power-weight-requires c = search (low_place, rules)

pub overflow_add-with : goal.overflow_add-with
overflow_add-with c = record { fits = search used_fits }

pub overflow_sub-left : goal.overflow_sub-left
overflow_sub-left c = search (mask_holds, rules)

pub stored-requires : goal.stored-requires
stored-requires c = search (low_place, rules)

pub bounds-places-v : goal.bounds-places-v
bounds-places-v c = search (low_place, rules)

pub tried_in-requires : goal.tried_in-requires
tried_in-requires c = (search rules, search low_place, search rules, search rules, search longer_within, search longer_places)

pub returns-in-Won : goal.returns-in-Won
returns-in-Won c =
    let y = tries c.loop-left.invariant c.if-left-eq0.false _ c.lowest-v.ensures _ c.stored.ensures _ c.stored-else-left-eq0.ensures in
    let j = judges y _ _ _ _ _ c.row_of-ones.ensures c.row_of-doubts.ensures c.power-weight.ensures.0 refl c.tried_in.ensures in (
      ends_won y c.if-steps-budget.false j (ap turn_code c.in-Won.is),
      next_kept y,
      search rules,
    )

pub renew_stops-requires : goal.renew_stops-requires
renew_stops-requires c =
    let y = tries c.loop-left.invariant c.if-left-eq0.false _ c.lowest-v.ensures _ c.stored.ensures _ c.stored-else-left-eq0.ensures in
    let j = judges y _ _ _ _ _ c.row_of-ones.ensures c.row_of-doubts.ensures c.power-weight.ensures.0 refl c.tried_in.ensures in (
      search rules,
      room_deeper y c.if-steps-budget.false j (ap turn_code c.in-Open.is),
      first_low y _ c.vertex_at.ensures.0,
      first_high y _ c.vertex_at.ensures.0,
      search rules,
      λ by_rows. (c.loop-left.invariant.stopping by_rows).none_first,
    )

pub bounds-blocks-depth : goal.bounds-blocks-depth
bounds-blocks-depth c =
    let y = tries c.loop-left.invariant c.if-left-eq0.false _ c.lowest-v.ensures _ c.stored.ensures _ c.stored-else-left-eq0.ensures in
    let j = judges y _ _ _ _ _ c.row_of-ones.ensures c.row_of-doubts.ensures c.power-weight.ensures.0 refl c.tried_in.ensures in
    next_fits y c.if-steps-budget.false j (ap turn_code c.in-Open.is)

pub loop-left-preserved : goal.loop-left-preserved
loop-left-preserved c =
    let y = tries c.loop-left.invariant c.if-left-eq0.false _ c.lowest-v.ensures _ c.stored.ensures _ c.stored-else-left-eq0.ensures in
    let j = judges y _ _ _ _ _ c.row_of-ones.ensures c.row_of-doubts.ensures c.power-weight.ensures.0 refl c.tried_in.ensures in
    goes_deeper y c.if-steps-budget.false j _ c.power-weight.ensures.0 (ap turn_code c.in-Open.is) _ _ c.vertex_at.ensures.0
    c.renew_stops.ensures.0 c.renew_stops.ensures.1 _ c.without-left.ensures

pub loop-left-preserved-in-Lost : goal.loop-left-preserved-in-Lost
loop-left-preserved-in-Lost c =
    let y = tries c.loop-left.invariant c.if-left-eq0.false _ c.lowest-v.ensures _ c.stored.ensures _ c.stored-else-left-eq0.ensures in
    let j = judges y _ _ _ _ _ c.row_of-ones.ensures c.row_of-doubts.ensures c.power-weight.ensures.0 refl c.tried_in.ensures in
    tries_on y c.if-steps-budget.false j _ c.power-weight.ensures.0 (ap turn_code c.in-Lost.is)
