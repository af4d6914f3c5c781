use borrow.Author.Rules.{rules}
use Rattle.arrangements.proofs.CodeTests.{place_zero, place_above, place_new, place_past}
use Rattle.arrangements.proofs.reordering.place_fits.Goals as goal

pub returns-then-v-lt1 : goal.returns-then-v-lt1
returns-then-v-lt1 c = search (place_zero, rules)

pub returns-then-n-v : goal.returns-then-n-v
returns-then-n-v c = search (place_above, rules)

pub returns-then-i-n : goal.returns-then-i-n
returns-then-i-n c = search (place_new, rules)

pub returns : goal.returns
returns c = search (place_past, rules)
