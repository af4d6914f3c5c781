-- The fields of a number are those that it was made of.
use Prim.Native.Nat.{ℕ, ◌^◌, ◌<◌}
use native.Mathlib.Omega.{arith}
use mathlib.Core.Path.{◌≡◌}
use Rattle.packing.specs.Packing.{fields, bits_from, low_in, row_in, column_in, literals_in, code_in}

-- fields that fit their places
pub record Fitting (low row column literals code : ℕ) : Type 0 where
  pub low_fits : low < 2 ^ 32
  pub row_fits : row < 2 ^ 6
  pub column_fits : column < 2 ^ 6
  pub literals_fit : literals < 2 ^ 9
  pub code_fits : code < 2 ^ 8

module _ (low row column literals code : ℕ) (f : Fitting low row column literals code) where
  -- the steps or the place
  pub low_is : low_in (fields low row column literals code) ≡ low
  unfolding fields
  low_is = omega arith

  -- the row
  pub row_is : row_in (fields low row column literals code) ≡ row
  unfolding fields
  row_is = omega arith

  -- the column
  pub column_is : column_in (fields low row column literals code) ≡ column
  unfolding fields
  column_is = omega arith

  -- the number of literals
  pub literals_are : literals_in (fields low row column literals code) ≡ literals
  unfolding fields
  literals_are = omega arith

  -- the code
  pub code_is : code_in (fields low row column literals code) ≡ code
  unfolding fields
  code_is = omega arith

  -- the three bits between are 0
  pub spare_zero : bits_from (fields low row column literals code) 53 3 ≡ 0
  unfolding fields
  spare_zero = omega arith

  -- and all of it is 64 bits
  pub word_fits : fields low row column literals code < 2 ^ 64
  unfolding fields
  word_fits = omega arith
