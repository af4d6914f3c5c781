-- The listing of the rules' example, computed.
use Rattle.std.specs.Prelude.{◌≡◌, refl, ◌∷◌, pos, negsuc, replicate}
use Rattle.judging.specs.declared.Verdict.TheVariants.{Smaller, Nothing, Refused}
use Rattle.judging.specs.Answer.{without}
use Rattle.text.specs.Text.{bytes_of}
use Rattle.text.specs.Decimal.{digits, fewest, decimal, signed}
use Rattle.text.specs.Lists.{others, listed}
use Rattle.line.specs.Line.{spaced, line_of, verdict_line, judged_line}
use Rattle.laws.specs.Test.{pick}

-- the lines of 100, of 001 and of a record that is refused
pub first_line : judged_line 1 3 (record { verdict = Smaller 1 2 4; arrangement = 1 ∷ 3 ∷ 2 ∷ replicate 29 0; literals = 2 }) (negsuc 0 ∷ pos 2 ∷ replicate 494 (pos 0)) ≡ bytes_of "1 3 smaller 1 2 4 1,3,2 -1,2\n"
unfolding bytes_of digits fewest decimal signed others listed spaced line_of verdict_line judged_line pick
first_line = refl

pub second_line : judged_line 2 3 (without (Nothing 13)) (replicate 496 (pos 0)) ≡ bytes_of "2 3 none 0 0 13 - -\n"
unfolding bytes_of digits fewest decimal signed others listed spaced line_of verdict_line judged_line pick without
second_line = refl

pub third_line : judged_line 3 0 (without (Refused 2 33)) (replicate 496 (pos 0)) ≡ bytes_of "3 0 refused 2 0 0 - -\n"
unfolding bytes_of digits fewest decimal signed others listed spaced line_of verdict_line judged_line pick without
third_line = refl
