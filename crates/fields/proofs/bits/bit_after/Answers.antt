use borrow.Author.Rules.{rules}
use Rattle.fields.proofs.BitLaws.{bit_there, bit_past}
use Rattle.fields.proofs.bits.bit_after.Goals as goal

pub returns-then-byte-bytes : goal.returns-then-byte-bytes
returns-then-byte-bytes c = search (bit_there, rules)

pub returns-else-byte-bytes : goal.returns-else-byte-bytes
returns-else-byte-bytes c = search (bit_past, rules)
