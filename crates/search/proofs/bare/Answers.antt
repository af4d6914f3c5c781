use mathlib.Core.Path.{refl}
use Rattle.judging.specs.Answer.{without}
use Rattle.search.proofs.bare.Goals as goal

pub returns : goal.returns
unfolding without
returns c = refl
