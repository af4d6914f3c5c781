use Prim.Native.Nat.{◌^◌, ◌<◌}
use mathlib.Core.Path.{◌≡◌}
use Rattle.laws.specs.UpTo.{word_up_to}
use Rattle.reading.specs.Lines.{start_by}
use Rattle.reading.proofs.held.Held.starts.Given as goal

-- After v turns the word has the starts of vertices 1..v.
abbrev pub invariant-loop-v : goal.invariant-loop-v
invariant-loop-v l = (l.starts ≡ word_up_to (start_by l.bits l.self.order) l.v) × (l.starts < 2 ^ l.v)
