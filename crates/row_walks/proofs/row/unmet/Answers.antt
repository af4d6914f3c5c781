use borrow.Author.Rules.{rules}
use Rattle.row_walks.proofs.CodeRows.{unmet_none, unmet_after, unmet_from}
use Rattle.row_walks.proofs.row.unmet.Goals as goal

pub returns-then-u-i : goal.returns-then-u-i
returns-then-u-i c = search (unmet_none, rules)

pub returns-then-u-s : goal.returns-then-u-s
returns-then-u-s c =
    unmet_after _ _ _ c.if-u-i.false _ _ c.power-weight.ensures.0 c.if-u-s.true
    c.without.ensures

pub returns : goal.returns
returns c =
    unmet_from _ _ _ c.if-u-i.false _ _ c.power-weight.ensures.0 c.if-u-s.false
    c.without-2.ensures
