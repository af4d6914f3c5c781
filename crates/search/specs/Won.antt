-- A walk that is won, at some pair.
use Rattle.std.specs.Prelude.{◌≡◌}
use Rattle.walk.specs.Walk.{Outcome, won}
use Rattle.pairs.specs.Pairs.{Pair}

pub record IsWon (o : Outcome Pair) : Type 0 where
  pub pair : Pair
  pub at : o ≡ won pair
