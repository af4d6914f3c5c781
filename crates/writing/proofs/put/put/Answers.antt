use mathlib.Core.Path.{refl}
use Rattle.writing.proofs.PutLaws.{starts_small, starts_room, rows_begin, last_fits, last_room, all_stored}
use borrow.Author.Rules.{rules}
use Rattle.graph.proofs.Formed.{formed}
use Rattle.graph.proofs.CodeAnswers.{order_low, order_high}
use Rattle.writing.proofs.put.put.Goals as goal

pub starts_of-bits-requires : goal.starts_of-bits-requires
starts_of-bits-requires c = let w = c.args.formed.formed in (order_low _ w, order_high _ w)

pub overflow_sub-order : goal.overflow_sub-order
overflow_sub-order c = order_low _ c.args.formed.formed

pub invariant_of-ordered : goal.invariant_of-ordered
invariant_of-ordered c = search (order_high _ c.args.formed.formed, rules)

pub push-started-requires : goal.push-started-requires
push-started-requires c = (search rules, starts_small _ _ _ c.starts_of-bits.ensures, search (starts_room, rules))

pub put_rows-done-requires : goal.put_rows-done-requires
put_rows-done-requires c =
    let w = formed _ c.args.formed.formed in (
      w.order_low,
      w.order_high,
      rows_begin _ _ w.order_low w.order_high c.requires _ refl refl c.from.ensures _ _ _ c.starts_of-bits.ensures c.push-started.ensures,
    )

pub overflow_mul-word : goal.overflow_mul-word
overflow_mul-word c =
    last_fits _ _ _ _ (order_low _ c.args.formed.formed) c.put_rows-done.ensures.0

pub store-requires : goal.store-requires
store-requires c =
    (search rules, last_room _ _ _ _ c.put_rows-done.ensures.0)

pub returns : goal.returns
returns c =
    let w = formed _ c.args.formed.formed in
    all_stored _ _ w.order_low w.order_high c.requires _ refl refl c.from.ensures _ _ _ _ _ _
    c.starts_of-bits.ensures c.push-started.ensures c.put_rows-done.ensures.0 c.put_rows-done.ensures.1 c.store.ensures
