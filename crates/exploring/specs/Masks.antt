-- The vertices of a block as a mask.
use Rattle.std.specs.Prelude.{ℕ, ◌+◌, ◌≤◌, ◌≡◌, ◌≢◌, eqb}
use Rattle.laws.specs.Test.{pick}
use Rattle.laws.specs.UpTo.{word_up_to}
use Rattle.rows.specs.Rows.{block_of}

-- 1 where v lies in the block of place i
unfoldable pub same_block : (ℕ → ℕ) → ℕ → ℕ → ℕ
same_block block i v = pick (eqb (block v) (block i)) 1 0

-- the block of place i as a mask
unfoldable pub block_mask : (ℕ → ℕ) → ℕ → ℕ → ℕ
block_mask block n i = word_up_to (same_block block i) n

-- the mask is that of the block of place i, if i is a place
pub record MaskOf (starts n i mask : ℕ) : Type 0 where
  pub is : 1 ≤ i → mask ≡ block_mask (block_of starts) n i

-- no place of 1..i is in the block of the place after i
pub record Fresh (starts i : ℕ) : Type 0 where
  pub apart : (v : ℕ) → 1 ≤ v → v ≤ i → block_of starts v ≢ block_of starts (i + 1)
