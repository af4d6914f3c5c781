-- The full answers of composing and inverting, with their refusals in the order of their checks.
use Rattle.std.specs.Prelude.{ℕ, List, Result, Ok, Err}
use Rattle.laws.specs.Test.{both, unless}
use Rattle.refusal.specs.declared.Refusal.{Refusal}
use Rattle.refusal.specs.declared.Refusal.TheVariants.{Order, Arrangement}
use Rattle.pairs.specs.Vertices.{order_fits}
use Rattle.arrangements.specs.Arrangement.{is_reordering}
use Rattle.composing.specs.Composed.{composed, inverse}

unfoldable pub compose_answer : ℕ → List ℕ → List ℕ → Result (List ℕ) Refusal
compose_answer n p q =
    unless (order_fits n) (Err (Order n))
    (unless (both (is_reordering n p) (is_reordering n q)) (Err Arrangement)
    (Ok (composed n p q)))

unfoldable pub invert_answer : ℕ → List ℕ → Result (List ℕ) Refusal
invert_answer n p =
    unless (order_fits n) (Err (Order n))
    (unless (is_reordering n p) (Err Arrangement)
    (Ok (inverse n p)))
