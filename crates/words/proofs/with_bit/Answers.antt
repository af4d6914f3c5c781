use borrow.Author.Rules.{rules}
use Rattle.words.proofs.CodeWords.{bit_out, with_bit_fits, with_bit_is}
use Rattle.words.proofs.with_bit.Goals as goal

pub overflow_sub-result : goal.overflow_sub-result
overflow_sub-result c = search (bit_out, rules)

pub overflow_add-result : goal.overflow_add-result
overflow_add-result c = search (with_bit_fits, rules)

pub returns : goal.returns
returns c = search (with_bit_is, rules)
