use borrow.Author.Rules.{rules}
use Rattle.exploring.proofs.CodeMasks.{fresh_start, mask_stays}
use Rattle.exploring.proofs.masks.next_mask.Goals as goal

pub block_from-requires-then-starts-i-eq1 : goal.block_from-requires-then-starts-i-eq1
block_from-requires-then-starts-i-eq1 c = (search rules, search rules, search (fresh_start, rules))

pub returns : goal.returns
returns c = search (mask_stays, rules)
