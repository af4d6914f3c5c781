-- What a function from place to bit says when it is read as a record.
use Rattle.std.specs.Prelude.{ℕ, ◌-◌, ◌*◌, ◌≤◌, ◌<◌, ◌≡◌, Bool, List, get_or, eqb}
use Rattle.laws.specs.Test.{pick}
use Rattle.laws.specs.UpTo.{word_up_to}
use Rattle.laws.specs.Num.{num}
use Rattle.laws.specs.First.{first_up_to}
use Rattle.graph.specs.declared.Graph.{Graph}
use Rattle.graph.specs.Graph.{drawn}
use Rattle.pairs.specs.Pairs.{pair_count, number}
use Rattle.record.specs.Layout.{start_place, entry_place, bit_count, byte_count}

-- the order
unfoldable pub order_in : (ℕ → ℕ) → ℕ
order_in f = num f 0 6

-- 1 where vertex v starts a block, as vertex 1 always does
unfoldable pub start_in : (ℕ → ℕ) → ℕ → ℕ
start_in f v = pick (eqb v 1) 1 (f (start_place v))

-- the word of block starts
unfoldable pub starts_in : (ℕ → ℕ) → ℕ → ℕ
starts_in f n = word_up_to (start_in f) n

-- the entry of the pair with number m
unfoldable pub numbered_in : (ℕ → ℕ) → ℕ → ℕ → ℕ
numbered_in f n m = num f (entry_place n m) 2

-- the entry of the pair (i, j), i < j
unfoldable pub entry_in : (ℕ → ℕ) → ℕ → ℕ → ℕ → ℕ
entry_in f n i j = numbered_in f n (number n i j)

-- is the entry of the pair with number m 11?
unfoldable pub is_refused : (ℕ → ℕ) → ℕ → ℕ → Bool
is_refused f n m = eqb (numbered_in f n m) 3

-- the number of the first pair whose entry is 11, or 0
unfoldable pub refused_in : (ℕ → ℕ) → ℕ → ℕ
refused_in f n = first_up_to (is_refused f n) (pair_count n)

-- the bits after the last entry, up to the end of the byte, as one number
unfoldable pub pad_in : (ℕ → ℕ) → ℕ → ℕ
pad_in f n = num f (bit_count n) (8 * byte_count n - bit_count n)

-- the graph
unfoldable pub graph_in : (ℕ → ℕ) → Graph
graph_in f = drawn (order_in f) (starts_in f (order_in f)) (entry_in f (order_in f))

-- the number that comes with refusal 3 is that of a pair whose entry is 11, and no pair before it has one
pub record FirstRefused (f : ℕ → ℕ) (n m : ℕ) : Type 0 where
  pub low : 1 ≤ m
  pub high : m ≤ pair_count n
  pub entry_refused : numbered_in f n m ≡ 3
  pub none_before : (k : ℕ) → 1 ≤ k → k < m → numbered_in f n k ≡ 3 → ⊥

-- the elements of a slice of bytes
pub record Bytes (s : List ℕ) : Type 0 where
  pub small : (k : ℕ) → get_or s k 0 < 256
