use borrow.Author.Rules.{rules}
use Rattle.packing.specs.Packing.{refusal}
use Rattle.packing.proofs.refused.Goals as goal

pub returns : goal.returns
unfolding refusal
returns c = search rules
