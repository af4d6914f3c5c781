-- The tests that rows and block starts pass in a well-formed graph.
use Rattle.std.specs.Prelude.{ℕ, ◌-◌, ◌^◌, Bool, List, leb, ltb, eqb}
use Rattle.laws.specs.Test.{both, pick}
use Rattle.laws.specs.UpTo.{all_up_to}
use Rattle.words.specs.Placed.{row}
use Rattle.rows.specs.Rows.{entry_in, start_at}

-- the entries at (i, j) and (j, i) agree, and no entry is both known and unknown
unfoldable pub pair_fits : List ℕ → List ℕ → ℕ → ℕ → Bool
pair_fits edges unknowns i j = both (eqb (entry_in edges unknowns i j) (entry_in edges unknowns j i)) (leb (entry_in edges unknowns i j) 2)

-- row i has nothing past the order, nothing on the diagonal, and fits the columns before it
unfoldable pub row_fits : ℕ → List ℕ → List ℕ → ℕ → Bool
row_fits order edges unknowns i =
    both (ltb (row edges i) (2 ^ pick (leb i order) order 0))
    (both (ltb (row unknowns i) (2 ^ pick (leb i order) order 0))
    (both (eqb (entry_in edges unknowns i i) 0)
    (all_up_to (pair_fits edges unknowns i) (i - 1))))

-- vertex 1 starts a block, and no start lies past the order
unfoldable pub starts_fit : ℕ → ℕ → Bool
starts_fit order starts = both (eqb (start_at starts 1) 1) (ltb starts (2 ^ order))
