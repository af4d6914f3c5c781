use mathlib.Core.Path.{◌≡◌}
use lib.ListN.{length}
use Rattle.std.specs.Prelude.{IfSome, ◌≤◌}
use Rattle.pairs.specs.Pairs.{pair}
use Rattle.plain.specs.Before.{before_in}
use Rattle.turns.specs.Turns.{walk_code}
use Rattle.turns.specs.Next.{pairs_after, starting_at, spot_pair}
use Rattle.trials.specs.After.{turn_after}
use Rattle.trials.proofs.after.wins_after.Given as goal

abbrev pub invariant-loop-next : goal.invariant-loop-next
invariant-loop-next l =
    let walk = walk_code (turn_after (before_in l.win.mode) l.win.path.rows.edges.now l.win.path.rows.unknowns.now l.win.path.vertices.now l.win.path.places.now (pair l.win.at.row l.win.at.column) l.without.pair l.without.image) in
    IfSome l.next (λ s. s.column ≤ l.win.order) × (walk (starting_at (pairs_after l.win.mode l.win.order) (spot_pair l.next)) ≡ walk (pairs_after l.win.mode l.win.order (pair l.win.at.row l.win.at.column)))

abbrev pub decreases-loop-next : goal.decreases-loop-next
decreases-loop-next l = length (starting_at (pairs_after l.win.mode l.win.order) (spot_pair l.next))
