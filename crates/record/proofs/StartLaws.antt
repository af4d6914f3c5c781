-- What a record says of block starts.
use Prim.Native.Nat.{ℕ, ◌+◌, ◌-◌, ◌≤◌, ◌<◌}
use mathlib.Core.Path.{◌≡◌, sym, ◌∙◌}
use mathlib.Core.Bool.{Bool, true, false}
use native.Mathlib.Omega.{arith}
use borrow.Author.Tests.{eq-eqb, ne_eqb}
use lib.Dec.{eqb}
use Rattle.laws.specs.Test.{pick}
use Rattle.laws.specs.TestLaws.{pick_true, pick_false}
use Rattle.record.specs.Reading.{start_in}

-- vertex 1 starts a block
pub start_first : (f : ℕ → ℕ) (v : ℕ) → v ≡ 1 → 1 ≡ start_in f v
unfolding start_in
start_first f v e = sym (pick_true (eqb v 1) 1 (f (6 + (v - 2))) (eq-eqb v 1 e))

-- a later vertex goes by its bit
pub start_later : (f : ℕ → ℕ) (v b : ℕ) → (v ≡ 1 → ⊥) → b ≡ f (6 + (v - 2)) → b ≡ start_in f v
unfolding start_in
start_later f v b e is_b = is_b ∙ sym (pick_false (eqb v 1) 1 (f (6 + (v - 2))) (ne_eqb v 1 e))

-- a start is 0 or 1
pub start_at_most : (f : ℕ → ℕ) → ((k : ℕ) → f k < 2) → (v : ℕ) → start_in f v ≤ 1
unfolding start_in pick
start_at_most f small v = go (eqb v 1) (f (6 + (v - 2))) (small (6 + (v - 2)))
  where
    go : (t : Bool) (b : ℕ) → b < 2 → pick t 1 b ≤ 1
    go true b h = omega arith
    go false b h = omega arith
