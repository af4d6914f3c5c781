-- A number of 32 bits in decimal is what the library shows.
use Rattle.std.proofs.Common.{ℕ, zero, suc, ◌+◌, ◌*◌, ◌/◌, ◌%◌, ◌^◌, ◌<◌, ◌≤◌, ◌≡◌, Bool, true, false, [], ◌∷◌, ◌++◌, refl, sym, ap, ◌∙◌, arith, add-zero}
use Rattle.std.proofs.Math.Nat.{div-div-eq-div-mul, pow-suc, pow-succ'}
use borrow.Author.Tests.{lt-ltb, le-ltb}
use lib.Dec.{ltb}
use Rattle.std.proofs.lemmas.Bool.Decides.{nat_tests}
use Rattle.std.specs.Fmt.{decimal as shown}
use Rattle.std.proofs.lemmas.Fmt.{decimal_by_steps}
use Rattle.laws.specs.Test.{pick}
use Rattle.text.specs.Decimal.{digits, fewest, decimal}

-- a digit of a tenth
digit_tenth : (k n : ℕ) → 48 + n / 10 ^ suc k % 10 ≡ 48 + n / 10 / 10 ^ k % 10
digit_tenth k n = rw (pow-succ' 10 k, div-div-eq-div-mul n 10 (10 ^ k))

-- the last digit, and those before it
digits_last : (k n : ℕ) → digits (suc k) n ≡ digits k (n / 10) ++ ((48 + n % 10) ∷ [])
unfolding digits
digits_last zero n = let e : n / 10 ^ 0 ≡ n = omega arith in rw e
digits_last (suc k) n = rw (digit_tenth k n) (ap (λ l. (48 + n / 10 / 10 ^ k % 10) ∷ l) (digits_last k n))

-- a number is below ten times as much as a tenth of it is
tenth_below : (n p : ℕ) → ltb n (p * 10) ≡ ltb (n / 10) p
tenth_below n p = grind (arith, nat_tests)

-- a tenth has one digit less
fewest_tenth : (more k n : ℕ) → fewest more (suc k) n ≡ suc (fewest more k (n / 10))
unfolding fewest pick
fewest_tenth zero k n = refl
fewest_tenth (suc more) k n = rw (pow-suc 10 k, tenth_below n (10 ^ k), fewest_tenth more (suc k) n) (either (ltb (n / 10) (10 ^ k)) (fewest more (suc k) (n / 10)))
  where
    either : (t : Bool) (r : ℕ) → pick t (suc k) (suc r) ≡ suc (pick t k r)
    either true r = refl
    either false r = refl

-- a number of at most that many digits needs no more
fewest_more : (more k n : ℕ) → n < 10 ^ (k + more) → fewest (suc more) k n ≡ fewest more k n
unfolding fewest pick
fewest_more zero k n h = rw (lt-ltb n (10 ^ k) (rw add-zero at h))
fewest_more (suc more) k n h =
    let e : k + suc more ≡ suc k + more = omega arith in
    rw (fewest_more more (suc k) n (rw e at h))

-- one digit
decimal_one : (n : ℕ) → n < 10 → decimal n ≡ (48 + n) ∷ []
unfolding decimal digits fewest pick
decimal_one n h =
    let e : 48 + n / 10 ^ 0 % 10 ≡ 48 + n = omega arith in
    rw (lt-ltb n 10 h, e)

-- and more
decimal_more : (n : ℕ) → 10 ≤ n → n < 10 ^ 10 → decimal n ≡ decimal (n / 10) ++ ((48 + n % 10) ∷ [])
unfolding decimal
decimal_more n h l =
    let second : fewest 9 1 n ≡ fewest 8 2 n = unfold fewest pick in rw (le-ltb n 10 h) in
    let e : fewest 9 1 n ≡ suc (fewest 9 1 (n / 10)) = second ∙ fewest_tenth 8 1 n ∙ ap suc (sym (fewest_more 8 1 (n / 10) (omega arith))) in
    rw e (digits_last (fewest 9 1 (n / 10)) n)

-- the same text
pub decimal_shown : (n : ℕ) → n < 2 ^ 32 → shown n ≡ decimal n
decimal_shown n h = sym (decimal_by_steps (λ m ds. m < 10 ^ 10 → decimal m ≡ ds) (λ m l b. decimal_one m l) (λ m ds l e b. decimal_more m l b ∙ ap (λ xs. xs ++ ((48 + m % 10) ∷ [])) (e (omega arith))) n (omega arith) (omega arith))
