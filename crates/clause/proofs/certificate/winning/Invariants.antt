use mathlib.Core.Path.{◌≡◌}
use lib.ListN.{length}
use Rattle.std.specs.Prelude.{IfSome, ◌≤◌}
use Rattle.plain.specs.Plain.{compared_in}
use Rattle.plain.specs.Before.{before_in}
use Rattle.turns.specs.Turns.{turn_at, first_pair}
use Rattle.turns.specs.Next.{pairs_after, starting_at, spot_pair}
use Rattle.clause.proofs.certificate.winning.Given as goal

abbrev pub invariant-loop-next : goal.invariant-loop-next
invariant-loop-next l =
    let first = first_pair (turn_at (before_in l.mode) l.path.rows.edges.now l.path.rows.unknowns.now l.path.vertices.now l.path.places.now) in
    IfSome l.next (λ s. s.column ≤ l.n) × (first (starting_at (pairs_after l.mode l.n) (spot_pair l.next)) ≡ first (compared_in l.mode l.n))

abbrev pub decreases-loop-next : goal.decreases-loop-next
decreases-loop-next l = length (starting_at (pairs_after l.mode l.n) (spot_pair l.next))
