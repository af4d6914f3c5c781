-- What the code's masks come to.
use Prim.Native.Nat.{ℕ, ◌+◌, ◌-◌, ◌/◌, ◌%◌, ◌^◌, ◌≤◌, ◌<◌}
use native.Mathlib.Omega.{arith}
use mathlib.Core.Path.{◌≡◌, refl, sym, ap, ◌∙◌}
use mathlib.Core.List.{List}
use lib.Dec.{eqb}
use lib.ListN.{set}
use Rattle.laws.specs.Test.{pick}
use Rattle.laws.specs.UpToLaws.{sum_longer, word_same}
use Rattle.laws.specs.Loops.{sum_turns}
use Rattle.words.specs.Placed.{placed}
use Rattle.rows.specs.Rows.{block_of, start_at}
use Rattle.words.proofs.Filled.{placed_turns}
use Rattle.exploring.specs.Masks.{same_block, block_mask, MaskOf, Fresh}

-- ---- the masks of places, each from the one before

-- one place more
block_more : (starts i : ℕ) → block_of starts (i + 1) ≡ block_of starts i + starts / 2 ^ i % 2
block_more starts i =
    let e : i + 1 - 1 ≡ i = omega arith in
    sym (sum_turns (start_at starts) i (block_of starts i) (starts / 2 ^ i % 2) refl (rw e))

-- a start begins a block
pub fresh_start : (starts i : ℕ) → starts / 2 ^ i % 2 ≡ 1 → Fresh starts i
fresh_start starts i e =
    record {
      apart = λ v l h q.
          omega (arith, sum_longer (start_at starts) v i h, block_more starts i, e);
    }

-- a place that is no start is in the block of the one before
pub mask_stays : (starts n i mask : ℕ) → MaskOf starts n i mask → (i ≡ 0 → ⊥) → (starts / 2 ^ i % 2 ≡ 1 → ⊥) → mask ≡ block_mask (block_of starts) n (i + 1)
unfolding block_mask same_block
mask_stays starts n i mask h z d =
    let same : block_of starts i ≡ block_of starts (i + 1) = omega (arith, block_more starts i) in
    h.is (omega arith)
    ∙ word_same (same_block (block_of starts) i) (same_block (block_of starts) (i + 1)) n (λ v a b. ap (λ (x : ℕ). pick (eqb (block_of starts v) x) 1 0) same)

pub mask_first : (starts n : ℕ) → MaskOf starts n 0 0
mask_first starts n = record { is = λ l. absurd (omega arith) }

pub mask_next : (starts n i m : ℕ) → m ≡ block_mask (block_of starts) n (i + 1) → MaskOf starts n (i + 1) m
mask_next starts n i m e = record { is = λ l. e }

pub masks_more : (starts n i m : ℕ) (out : List ℕ) → m ≡ block_mask (block_of starts) n (i + 1) → out ≡ placed (block_mask (block_of starts) n) i → i < n → n ≤ 32
    → set out i m ≡ placed (block_mask (block_of starts) n) (i + 1)
masks_more starts n i m out h f l k = placed_turns (block_mask (block_of starts) n) i m n out f h l k
