use Prim.Native.Nat.{◌+◌, ◌-◌, ◌*◌}
use Rattle.graph.specs.Lent.{lent}
use Rattle.exploring.proofs.Searching.{Searching}
use Rattle.exploring.proofs.explore.explore.Given as goal

abbrev pub invariant-loop-left : goal.invariant-loop-left
invariant-loop-left l = Searching l.mode (lent l.formed.graph) l.budget l.blocks l.initial.path l.path l.untried l.stops l.places l.left l.used l.depth l.steps

abbrev pub decreases-loop-left : goal.decreases-loop-left
decreases-loop-left l = (l.budget - l.steps) * 2 + l.depth
