-- Which of two fully drawn graphs of equal order is the earlier: by the first pair where they differ, and, as published, by the rows of the
-- matrix, or by the columns of its upper half.
use Rattle.std.specs.Prelude.{ℕ, zero, suc, ◌≤◌, List, [], ◌++◌, eqb}
use Rattle.laws.specs.Test.{pick}
use Rattle.laws.specs.UpTo.{list_up_to}
use Rattle.walk.specs.Earlier.{Earlier}
use Rattle.graph.specs.declared.Graph.{Graph}
use Rattle.graph.specs.Graph.{entry}
use Rattle.plain.specs.Plain.{compared_in}
use Rattle.graph.specs.Counts.{entry_at}

-- no unknown entry
pub record FullyDrawn (g : Graph) : Type 0 where
  pub known : (i j : ℕ) → entry g i j ≤ 1

-- of two fully drawn graphs of equal order, g is the earlier
abbrev pub EarlierGraph : (mode : ℕ) → Graph → Graph → Type 0
EarlierGraph mode g h = Earlier (compared_in mode g.order) (entry_at g) (entry_at h)

-- ---- the published orders: two words are compared lexicographically, by walk's LexLess

-- the rows i, i + 1, .. of the matrix a joined: m rows, of n entries each
unfoldable pub rows_joined : (ℕ → ℕ → ℕ) → ℕ → ℕ → ℕ → List ℕ
rows_joined a n i zero = []
rows_joined a n i (suc m) = list_up_to (a i) n ++ rows_joined a n (suc i) m

-- by rows: A[1]A[2]..A[n], the rows of the whole matrix
unfoldable pub matrix_word : Graph → List ℕ
matrix_word g = rows_joined (entry g) g.order 1 g.order

-- the columns 1, 2, .., n of the upper triangular part of the matrix a joined: of column j the entries of the rows 1 to j - 1
unfoldable pub columns_joined : (ℕ → ℕ → ℕ) → ℕ → List ℕ
columns_joined a zero = []
columns_joined a (suc n) = columns_joined a n ++ list_up_to (λ i. a i (suc n)) n

-- by columns: C(G)
unfoldable pub column_word : Graph → List ℕ
column_word g = columns_joined (entry g) g.order

-- the word that a mode compares
unfoldable pub word_in : (mode : ℕ) → Graph → List ℕ
word_in mode g = pick (eqb mode 2) (column_word g) (matrix_word g)
