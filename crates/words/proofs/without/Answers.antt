use borrow.Author.Rules.{rules}
use Rattle.words.proofs.CodeWords.{part_within}
use Rattle.words.proofs.without.Goals as goal

pub overflow_sub-result : goal.overflow_sub-result
overflow_sub-result c = search (part_within, rules)
