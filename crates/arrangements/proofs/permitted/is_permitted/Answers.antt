use borrow.Author.Rules.{rules}
use Rattle.arrangements.proofs.CodeTests.{known_reordering, permitted_is, permitted_not}
use Rattle.arrangements.proofs.permitted.is_permitted.Goals as goal

pub blocks_kept-requires : goal.blocks_kept-requires
blocks_kept-requires c = search (known_reordering, rules)

pub returns-then-is_reordering : goal.returns-then-is_reordering
returns-then-is_reordering c = search (permitted_is, rules)

pub returns-else-is_reordering : goal.returns-else-is_reordering
returns-else-is_reordering c = search (permitted_not, rules)
