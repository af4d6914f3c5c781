-- Writing byte after byte into a buffer.
use Prim.Native.Nat.{ℕ, ◌+◌, ◌≤◌, ◌<◌}
use borrow.Author.Tests.{lt-ltb, le-ltb}
use mathlib.Core.Path.{◌≡◌, refl}
use mathlib.Core.List.{List, [], ◌∷◌, ◌++◌}
use lib.ListN.{length, set}
use Rattle.laws.specs.Test.{pick}
use Rattle.text.specs.Page.{Page, page, pushed, written}

-- ---- a byte

-- there is room
pub pushes : (out : List ℕ) (at b : ℕ) → at < length out → page (set out at b) (at + 1) ≡ pushed (page out at) b
unfolding pushed pick
pushes out at b h = rw (lt-ltb at (length out) h)

-- there is none
pub stays : (out : List ℕ) (at b : ℕ) → length out ≤ at → page out at ≡ pushed (page out at) b
unfolding pushed pick
stays out at b h = rw (le-ltb at (length out) h)

-- ---- bytes

-- two texts, one after the other
pub written_append : (p : Page) (xs ys : List ℕ) → written p (xs ++ ys) ≡ written (written p xs) ys
unfolding written
written_append p [] ys = refl
written_append p (x ∷ xs) ys = written_append (pushed p x) xs ys
