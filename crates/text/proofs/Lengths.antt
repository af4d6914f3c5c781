-- How long numbers and lists are as text.
use Prim.Native.Nat.{ℕ, zero, suc, ◌+◌, ◌*◌, ◌^◌, ◌≤◌}
use native.Mathlib.Omega.{arith}
use mathlib.Core.Path.{◌≡◌, refl, ap}
use mathlib.Core.Bool.{Bool, true, false}
use mathlib.Core.List.{List, [], ◌∷◌}
use lib.Dec.{ltb}
use lib.IntN.{ℤ, pos, negsuc}
use lib.ListN.{length, length-append}
use Rattle.laws.specs.Test.{pick}
use Rattle.text.specs.Decimal.{digits, fewest, decimal, signed}
use Rattle.text.specs.Lists.{others, listed}

-- ---- a number

-- k digits are k characters
digits_length : (k n : ℕ) → length (digits k n) ≡ k
unfolding digits
digits_length zero n = refl
digits_length (suc k) n = ap suc (digits_length k n)

-- what is picked of two numbers is at most m where both are
picked_below : (t : Bool) (x y m : ℕ) → x ≤ m → y ≤ m → pick t x y ≤ m
unfolding pick
picked_below true x y m a b = a
picked_below false x y m a b = b

-- the count of digits stays within its limit
fewest_bounded : (more k n : ℕ) → fewest more k n ≤ k + more
unfolding fewest
fewest_bounded zero k n = omega arith
fewest_bounded (suc more) k n = picked_below (ltb n (10 ^ k)) k (fewest more (suc k) n) (k + suc more) (omega arith) (omega (arith, fewest_bounded more (suc k) n))

-- a number has at most 10 digits
pub decimal_short : (n : ℕ) → length (decimal n) ≤ 10
unfolding decimal
decimal_short n = rw (digits_length (fewest 9 1 n) n) (fewest_bounded 9 1 n)

-- and one character more for its sign
pub signed_short : (z : ℤ) → length (signed z) ≤ 11
unfolding signed
signed_short (pos n) = omega (arith, decimal_short n)
signed_short (negsuc k) = omega (arith, decimal_short (suc k))

-- ---- a list

module _ {A : Type 0} (f : A → List ℕ) (short : (x : A) → length (f x) ≤ 11) where
  -- each element takes a comma and at most 11 characters
  others_short : (l : List A) → length (others f l) ≤ 12 * length l
  unfolding others
  others_short [] = omega arith
  others_short (x ∷ l) = rw (length-append (f x) (others f l)) (omega (arith, short x, others_short l))

  -- the first has no comma, and a dash is one character
  pub listed_short : (l : List A) → length (listed f l) ≤ 1 + 12 * length l
  unfolding listed
  listed_short [] = omega arith
  listed_short (x ∷ l) = rw (length-append (f x) (others f l)) (omega (arith, short x, others_short l))
