use borrow.Author.Rules.{rules}
use Rattle.words.proofs.Filled.{placed_starts, placed_done}
use Rattle.exploring.proofs.CodeMasks.{mask_first, mask_next, masks_more}
use Rattle.exploring.proofs.masks.block_masks.Goals as goal

pub loop-i-init : goal.loop-i-init
loop-i-init c = (search rules, search mask_first, search placed_starts)

pub loop-i-preserved : goal.loop-i-preserved
loop-i-preserved c = (search rules, search mask_next, search masks_more)

pub returns : goal.returns
returns c = search (placed_done, rules)
