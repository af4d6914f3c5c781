-- A number as its sign and its digits.
use Rattle.std.proofs.Common.{[], ◌∷◌, ◌≡◌, true, false, ℤ, pos, negsuc, unsigned_abs, arith}
use borrow.Author.Tests.{ltb-true}
use Rattle.std.specs.Int.{is_negative}
use Rattle.text.specs.declared.writer.Writer.{Writer}
use Rattle.text.specs.Decimal.{decimal, signed}
use Rattle.text.specs.Writer.{Puts}
use Rattle.text.proofs.Writers.{puts_append}

-- below 0
pub signed_negative : (p q r : Writer) (z : ℤ) → is_negative z ≡ true → Puts p (45 ∷ []) q → Puts q (decimal (unsigned_abs z)) r → Puts p (signed z) r
unfolding signed
signed_negative p q r (pos n) h a b = absurd (omega (arith, ltb-true n 0 h))
signed_negative p q r (negsuc n) h a b = puts_append a b

-- and from 0 on
pub signed_positive : (p r : Writer) (z : ℤ) → is_negative z ≡ false → Puts p (decimal (unsigned_abs z)) r → Puts p (signed z) r
unfolding signed
signed_positive p r (pos n) h a = a
signed_positive p r (negsuc n) h a = cc
