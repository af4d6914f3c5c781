use borrow.Author.Rules.{rules}
use Rattle.row_walks.proofs.CodeRows.{sources_all, sources_own, sources_earlier}
use Rattle.row_walks.proofs.row.sources.Goals as goal

pub returns-then-s-i : goal.returns-then-s-i
returns-then-s-i c = search (sources_all, rules)

pub returns-then-s-u : goal.returns-then-s-u
returns-then-s-u c =
    sources_own _ _ _ _ c.if-s-i.false _ _ c.power-weight.ensures.0 c.without-earlier.ensures
    c.if-s-u.true

pub returns : goal.returns
returns c =
    sources_earlier _ _ _ _ c.if-s-i.false _ _ c.power-weight.ensures.0
    c.without-earlier.ensures c.if-s-u.false
