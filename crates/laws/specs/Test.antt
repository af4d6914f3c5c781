-- Tests that a definition makes, and the choice of a value by one.
use Rattle.std.specs.Prelude.{Bool, true, false}

-- both tests hold
unfoldable pub both : Bool → Bool → Bool
both true b = b
both false b = false

-- one test holds, or the other
unfoldable pub either : Bool → Bool → Bool
either true b = true
either false b = b

-- x where the test holds, else y
unfoldable pub pick : {A : Type 0} → Bool → A → A → A
pick true x y = x
pick false x y = y

-- the refusal unless the test holds, else what comes after it
unfoldable pub unless : {A : Type 0} → Bool → A → A → A
unless true refusal rest = rest
unless false refusal rest = refusal
