use borrow.Author.Rules.{rules}
use Rattle.graph.specs.Lent.{lent}
use Rattle.exploring.proofs.CodeSearch.{order_bounded}
use Rattle.search.proofs.CodeJudge.{still_zeros, found_begins, found_won, answers_none, answers_cut, answers_first, none_buffer, cut_buffer, smaller_buffer}
use Rattle.search.proofs.judge_with_room.Goals as goal

pub block_masks-blocks-requires : goal.block_masks-blocks-requires
block_masks-blocks-requires c = order_bounded _ _ _ _ c.args.formed.formed

pub certify-requires : goal.certify-requires
certify-requires c =
    let found = rw c.in-Won.is at c.explore-end.ensures.0 in (
      search rules,
      search rules,
      rw c.in-Won.is at c.explore-end.ensures.2,
      found_begins _ _ _ _ _ found,
      found_won _ _ _ _ _ found,
      search still_zeros,
    )

pub returns-in-Won : goal.returns-in-Won
returns-in-Won c = (
  answers_first _ _ _ _ _ _ (rw c.in-Won.is at c.explore-end.ensures.0) c.certify.ensures.0,
  smaller_buffer _ _ _ _ _ _ _ c.certify.ensures.0 c.certify.ensures.1,
)

pub returns-in-Nothing : goal.returns-in-Nothing
returns-in-Nothing c = (
  answers_none _ (lent c.args.formed.graph) _ _ _ (rw c.in-Nothing.is at c.explore-end.ensures.0) c.bare.ensures,
  none_buffer _ (lent c.args.formed.graph) _ _ _ c.bare.ensures,
)

pub returns-in-Cut : goal.returns-in-Cut
returns-in-Cut c = (
  answers_cut _ (lent c.args.formed.graph) _ _ (rw c.in-Cut.is at c.explore-end.ensures.0) c.bare-in-Cut.ensures,
  cut_buffer _ (lent c.args.formed.graph) _ _ _ c.bare-in-Cut.ensures,
)
