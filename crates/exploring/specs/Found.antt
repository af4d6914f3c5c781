-- What an ended search has found.
use Rattle.std.specs.Prelude.{ℕ, List, take}
use Rattle.beginnings.specs.Search.{Found, cut, none, first}
use Rattle.exploring.specs.declared.explore.Explored.{Explored}
use Rattle.exploring.specs.declared.explore.Explored.TheVariants.{Nothing, Won, Cut}

-- what it has found, where p is its path
abbrev pub found_by : Explored → List ℕ → Found
found_by (Nothing steps) p = none steps
found_by (Won steps depth) p = first (take depth p) steps
found_by Cut p = cut

-- how long the won beginning is, or 0
abbrev pub depth_of : Explored → ℕ
depth_of (Nothing steps) = 0
depth_of (Won steps depth) = depth
depth_of Cut = 0
