-- A block is a run of vertices from one start to the next.
use Prim.Native.Nat.{ℕ, zero, suc, ◌+◌, ◌≤◌, ◌<◌}
use native.Mathlib.Nat.{eq-or-lt_of_le}
use native.Mathlib.Omega.{arith}
use mathlib.Core.Path.{◌≡◌, refl, ap}
use mathlib.Core.Logic.{◌↔◌, ⊎_elim}
use Rattle.laws.specs.UpTo.{sum_up_to}
use Rattle.laws.specs.UpToLaws.{sum_longer}
use Rattle.rows.specs.Rows.{start_at, block_of}
use Rattle.arrangements.specs.Arrangement.{NoStart}

-- one vertex more
block_more : (starts v : ℕ) → block_of starts (suc v) ≡ block_of starts v + start_at starts (suc v)
unfolding sum_up_to
block_more starts v = refl

no_start_same : (starts u v : ℕ) → u ≤ v → NoStart starts u v → block_of starts u ≡ block_of starts v
no_start_same starts u zero l h = let e : u ≡ 0 = omega arith in ap (block_of starts) e
no_start_same starts u (suc v) l h = ⊎_elim (λ (e : u ≡ suc v). ap (block_of starts) e) (λ (k : u < suc v). later (no_start_same starts u v (omega arith) (λ w a b. h w a (omega arith))) k) (eq-or-lt_of_le l)
  where
    later : block_of starts u ≡ block_of starts v → u < suc v → block_of starts u ≡ block_of starts (suc v)
    later e k = omega (arith, e, block_more starts v, h (suc v) k (omega arith))

same_no_start : (starts u v : ℕ) → u ≤ v → block_of starts u ≡ block_of starts v → NoStart starts u v
same_no_start starts u v l e zero a b = absurd (omega arith)
same_no_start starts u v l e (suc w) a b =
    omega (arith, e, block_more starts w, sum_longer (start_at starts) u w (omega arith), sum_longer (start_at starts) (suc w) v b)

-- two vertices are in one block exactly where no start lies after the one, up to the other
pub one_block : (starts u v : ℕ) → u ≤ v → (block_of starts u ≡ block_of starts v) ↔ NoStart starts u v
one_block starts u v l = (same_no_start starts u v l, no_start_same starts u v l)
