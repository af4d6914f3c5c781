-- Tables of text: rows that end with a line's end, with digits at their columns.
use Rattle.std.specs.Prelude.{◌≡◌, ◌⊎◌, Result, Ok, IsErr, ℕ, zero, suc, ◌+◌, ◌-◌, ◌*◌, ◌%◌, List, [], ◌∷◌, get_or, eqb, ltb}
use Rattle.laws.specs.Test.{pick}

-- how many bytes come before the next line's end
unfoldable pub row_length : List ℕ → ℕ
row_length [] = 0
row_length (b ∷ bs) = let rest = row_length bs in pick (eqb b 10) 0 (suc rest)

-- a byte put at the start of the first row, if there is one
unfoldable pub onto_row : ℕ → List (List ℕ) → List (List ℕ)
onto_row b [] = []
onto_row b (row ∷ rest) = (b ∷ row) ∷ rest

-- the rows, each without its line's end; what comes after the last line's end is none
unfoldable pub rows : List ℕ → List (List ℕ)
rows [] = []
rows (b ∷ bs) = let rest = rows bs in pick (eqb b 10) ([] ∷ rest) (onto_row b rest)

-- what comes of doing something with each row, by what it may give: fine if that is fine for each, else the first error
abbrev pub EachRowGives : {E : Type 0} → (List ℕ → Result (Unit {0}) E → Type 0) → List (List ℕ) → Result (Unit {0}) E → Type 0
EachRowGives Gives [] result = result ≡ Ok tt
EachRowGives Gives (row ∷ rest) result = (Gives row (Ok tt) × EachRowGives Gives rest result) ⊎ (Gives row result × IsErr result)

-- the value of a digit: 0 to 9, then a for 10, b for 11 and so on
unfoldable pub digit_value : ℕ → ℕ
digit_value b = pick (ltb b 48) 0 (pick (ltb b 97) (b - 48) (b - 87))

-- the digit at a column of a row, from 0
unfoldable pub digit_at : List ℕ → ℕ → ℕ
digit_at row column = digit_value (get_or row column 0)

-- the number v with the hexadecimal digits from a column on put after it, one after the other
unfoldable pub hex_from : List ℕ → ℕ → ℕ → ℕ → ℕ
hex_from row column zero v = v
hex_from row column (suc m) v = hex_from row (column + 1) m (v % 1152921504606846976 * 16 + digit_at row column % 16)
