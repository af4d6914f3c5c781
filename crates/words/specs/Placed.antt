-- Rows of words: the row of vertex i stands at index i - 1.
use Rattle.std.specs.Prelude.{ℕ, ◌-◌, List, ◌++◌, get_or, replicate}
use Rattle.laws.specs.UpTo.{list_up_to}

-- the row mask of vertex i
abbrev pub row : List ℕ → ℕ → ℕ
row rows i = get_or rows (i - 1) 0

-- f 1, .., f n, and zeros up to place 32
unfoldable pub placed : (ℕ → ℕ) → ℕ → List ℕ
placed f n = list_up_to f n ++ replicate (32 - n) 0
