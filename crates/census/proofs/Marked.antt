-- Marking an entry keeps the number of rows.
use Prim.Native.Nat.{ℕ}
use mathlib.Core.Path.{◌≡◌}
use mathlib.Core.List.{List}
use lib.ListN.{length, length-set}
use Rattle.rows.specs.Rows.{with_mark}

pub marked_long : (rows marked : List ℕ) (i j b : ℕ) → length rows ≡ 32 → marked ≡ with_mark rows i j b → length marked ≡ 32
unfolding with_mark
marked_long rows marked i j b h e = rw e (simp length-set h)
