use borrow.Author.Rules.{rules}
use Rattle.listing.proofs.Starting.{begins, begins_too_long}
use Rattle.listing.proofs.lines.first_part.Goals as goal

pub returns-then-book-le65536 : goal.returns-then-book-le65536
returns-then-book-le65536 c =
    begins _ _ _ _ c.requires c.header-used.ensures c.if-book-le65536.true

pub returns : goal.returns
returns c =
    begins_too_long _ _ _ _ c.requires c.header-used.ensures _ _ _ (search rules) (search rules) c.line-more.ensures
