-- The pairs in row order: which they are, how many, the number of each, and the pairs from a given one on.
use Prim.Native.Nat.{ℕ, zero, suc, ◌+◌, ◌-◌, ◌*◌, ◌/◌, ◌≤◌, ◌<◌}
use native.Mathlib.Nat.{eq-or-lt_of_le, le_dest, le_of_lt, lt_of_lt_of_le, mul-le-mul}
use native.Mathlib.Omega.{arith}
use mathlib.Core.Path.{◌≡◌, refl, sym, ap, ap₂, subst, ◌∙◌}
use mathlib.Core.Logic.{◌⊎◌, inl, inr, ⊎_elim}
use mathlib.Core.List.{List, ◌∷◌, ◌++◌, map, append_assoc, Memᴰ}
use lib.ListN.{length, get_or, drop, length-append, length-drop, get_or-map}
use lib.Seq.{drop-append-le, drop-append_seam, drop-drop, get_or-drop, get_or-append_seam}
use Rattle.laws.specs.UpTo.{list_up_to}
use Rattle.laws.specs.ListLaws.{map_append, get_d_mem, NoRepeats, no_repeats_of_map, count_up, count_up_append, count_up_get_d, count_up_up_to, count_up_no_repeats}
use Rattle.pairs.specs.Pairs.{Pair, pair, Between, along_row, from_row, pairs, pair_count, number, number_of, pair_of}

-- ---- matrices

-- a is symmetric with a zero diagonal
pub record Mirrored (a : ℕ → ℕ → ℕ) : Type 0 where
  pub symmetric : (i j : ℕ) → a i j ≡ a j i
  pub diagonal : (i : ℕ) → a i i ≡ 0

-- the entry of the matrix a at a pair
abbrev pub entry_of : (ℕ → ℕ → ℕ) → Pair → ℕ
entry_of a k = a k.row k.column

-- ---- which pairs there are

-- k stands in row i, at one of the m columns from j on
pub record Along (i j m : ℕ) (k : Pair) : Type 0 where
  pub same_row : k.row ≡ i
  pub from_column : j ≤ k.column
  pub to_column : k.column < j + m

-- only such pairs stand along the row
pub along_given : (i j m : ℕ) (k : Pair) → Memᴰ k (along_row i j m) → Along i j m k
unfolding along_row
along_given i j zero k h = absurd (mathlib.Core.List.Memᴰ.not-nil h)
along_given i j (suc m) k h =
    ⊎_elim {C = Along i j (suc m) k}
    (λ (e : k ≡ pair i j). let r : k.row ≡ i = ap (λ x. x.row) e in let c : k.column ≡ j = ap (λ x. x.column) e in omega arith)
    (λ (h' : Memᴰ k (along_row i (suc j) m)). let a = along_given i (suc j) m k h' in omega arith)
    (mathlib.Core.List.Memᴰ.cases_cons h)

-- and all of them
pub along_has : (i j m : ℕ) (k : Pair) → Along i j m k → Memᴰ k (along_row i j m)
unfolding along_row
along_has i j zero k a = absurd (omega arith)
along_has i j (suc m) k a = go (along_has i (suc j) m k) (eq-or-lt_of_le a.from_column)
  where
    go : (Along i (suc j) m k → Memᴰ k (along_row i (suc j) m)) → (j ≡ k.column) ⊎ (j < k.column) → Memᴰ k (pair i j ∷ along_row i (suc j) m)
    go further (inl e) = mathlib.Core.List.Memᴰ.head (λ d. record { row = a.same_row d; column = sym e d })
    go further (inr l) = mathlib.Core.List.Memᴰ.tail (further (omega arith))

-- the pairs from row i on, where m vertices come after i, are pairs of i..i + m
pub from_row_given : (i m : ℕ) (k : Pair) → Memᴰ k (from_row i m) → Between i (i + m) k
unfolding from_row
from_row_given i zero k h = absurd (mathlib.Core.List.Memᴰ.not-nil h)
from_row_given i (suc m) k h =
    ⊎_elim {C = Between i (i + suc m) k}
    (λ (h' : Memᴰ k (along_row i (suc i) (suc m))). let a = along_given i (suc i) (suc m) k h' in omega arith)
    (λ (h' : Memᴰ k (from_row (suc i) m)). let b = from_row_given (suc i) m k h' in omega arith)
    (mathlib.Core.List.Memᴰ.append_cases (along_row i (suc i) (suc m)) h)

-- and all of them
pub from_row_has : (i m : ℕ) (k : Pair) → Between i (i + m) k → Memᴰ k (from_row i m)
unfolding from_row
from_row_has i zero k b = absurd (omega arith)
from_row_has i (suc m) k b = go (from_row_has (suc i) m k) (eq-or-lt_of_le b.from_low)
  where
    go : (Between (suc i) (suc i + m) k → Memᴰ k (from_row (suc i) m)) → (i ≡ k.row) ⊎ (i < k.row)
        → Memᴰ k (along_row i (suc i) (suc m) ++ from_row (suc i) m)
    go further (inl e) = mathlib.Core.List.Memᴰ.append_left (from_row (suc i) m) (along_has i (suc i) (suc m) k (omega arith))
    go further (inr l) = mathlib.Core.List.Memᴰ.append_right (along_row i (suc i) (suc m)) (further (omega arith))

-- what stands in the list of pairs is a pair of 1..n
pub pairs_given : (n : ℕ) (k : Pair) → Memᴰ k (pairs n) → Between 1 n k
unfolding pairs
pairs_given n k h = let b = from_row_given 1 (n - 1) k h in omega arith

-- and each pair of 1..n stands there
pub pairs_has : (n : ℕ) (k : Pair) → Between 1 n k → Memᴰ k (pairs n)
unfolding pairs
pairs_has n k b = from_row_has 1 (n - 1) k (omega arith)

-- ---- how many pairs there are

-- vertex n + 1 makes a pair with each of the n before it
pub pair_count_suc : (n : ℕ) → pair_count (suc n) ≡ pair_count n + n
pair_count_suc zero = refl
pair_count_suc (suc m) =
    let a : suc (suc m) - 1 ≡ suc m = omega arith in
    let b : suc m - 1 ≡ m = omega arith in
    rw (a, b) (omega arith)

-- more vertices have no fewer pairs
pub pair_count_mono : (m n : ℕ) → m ≤ n → pair_count m ≤ pair_count n
pair_count_mono m n h =
    let less : m - 1 ≤ n - 1 = omega arith in
    omega (arith, mul-le-mul h less)

-- a row of m pairs has m pairs
pub along_row_length : (i j m : ℕ) → length (along_row i j m) ≡ m
unfolding along_row
along_row_length i j zero = refl
along_row_length i j (suc m) = ap suc (along_row_length i (suc j) m)

-- the rows from i on have the pairs of m + 1 vertices
pub from_row_length : (i m : ℕ) → length (from_row i m) ≡ pair_count (suc m)
unfolding from_row
from_row_length i zero = refl
from_row_length i (suc m) =
    length-append (along_row i (suc i) (suc m)) (from_row (suc i) m) ∙ ap₂ ◌+◌ (along_row_length i (suc i) (suc m)) (from_row_length (suc i) m)
    ∙ omega (arith, pair_count_suc (suc m))

-- there are n(n - 1)/2 pairs
pub pairs_length : (n : ℕ) → length (pairs n) ≡ pair_count n
unfolding pairs from_row
pairs_length zero = refl
pairs_length (suc m) = let a : suc m - 1 ≡ m = omega arith in from_row_length 1 (suc m - 1) ∙ ap (λ (x : ℕ). pair_count (suc x)) a

-- ---- the numbers of the pairs

-- how many pairs stand in the rows before row i
abbrev rows_before : ℕ → ℕ → ℕ
rows_before n i = (i - 1) * (2 * n - i) / 2

-- the same for row a + 1, after which m vertices come
rows_before_next : (a m : ℕ) → rows_before (suc a + m) (suc (suc a)) ≡ rows_before (suc a + m) (suc a) + m
rows_before_next a m =
    let x : 2 * (suc a + m) - suc (suc a) ≡ a + 2 * m = omega arith in
    let y : 2 * (suc a + m) - suc a ≡ suc a + 2 * m = omega arith in
    let z : suc (suc a) - 1 ≡ suc a = omega arith in
    let w : suc a - 1 ≡ a = omega arith in
    rw (x, y, z, w) (omega arith)

-- row i has n - i pairs
rows_before_suc : (n i : ℕ) → 1 ≤ i → i ≤ n → rows_before n (suc i) ≡ rows_before n i + (n - i)
rows_before_suc n zero l h = absurd (omega arith)
rows_before_suc n (suc a) l h =
    let d = le_dest h in
    let m : suc a + d.0 - suc a ≡ d.0 = omega arith in
    subst (λ (x : ℕ). rows_before x (suc (suc a)) ≡ rows_before x (suc a) + (x - suc a)) d.1 (rw m (rows_before_next a d.0))

-- (1, 2) has number 1
pub number_first : (n : ℕ) → number n 1 2 ≡ 1
number_first n = omega arith

-- along a row the number rises by one
pub number_along : (n i j : ℕ) → i < j → number n i (suc j) ≡ suc (number n i j)
number_along n i j h = omega arith

-- and from the end of a row to the next row
pub number_next_row : (n i : ℕ) → 1 ≤ i → i < n → number n (suc i) (suc (suc i)) ≡ suc (number n i n)
number_next_row n i l h = omega (arith, rows_before_suc n i l (omega arith))

-- ---- the pairs from a given one on

-- a row from its d-th pair on
along_row_drop : (d i j m : ℕ) → d ≤ m → drop d (along_row i j m) ≡ along_row i (j + d) (m - d)
unfolding along_row
along_row_drop zero i j m h = let a : j + 0 ≡ j = omega arith in let b : m - 0 ≡ m = omega arith in rw (a, b)
along_row_drop (suc d) i j zero h = absurd (omega arith)
along_row_drop (suc d) i j (suc m) h =
    let a : j + suc d ≡ suc j + d = omega arith in
    let b : suc m - suc d ≡ m - d = omega arith in
    rw (a, b) (along_row_drop d i (suc j) m (omega arith))

-- a row of m + k pairs is its first m pairs and the k that follow
pub along_row_append : (i j m k : ℕ) → along_row i j (m + k) ≡ along_row i j m ++ along_row i (j + m) k
unfolding along_row
along_row_append i j zero k = let a : 0 + k ≡ k = omega arith in let b : j + 0 ≡ j = omega arith in rw (a, b)
along_row_append i j (suc m) k =
    let a : suc m + k ≡ suc (m + k) = omega arith in
    let b : j + suc m ≡ suc j + m = omega arith in
    rw (a, b) (ap {B = List Pair} (λ r. pair i j ∷ r) (along_row_append i (suc j) m k))

-- the rows from i on are row i and the rows after it
pub from_row_split : (i m : ℕ) → from_row i m ≡ along_row i (suc i) m ++ from_row (suc i) (m - 1)
unfolding from_row along_row
from_row_split i zero = refl
from_row_split i (suc m) = let a : suc m - 1 ≡ m = omega arith in rw a

-- the pairs from row i on
pub pairs_from_row : (n i : ℕ) → 1 ≤ i → i ≤ n → drop (rows_before n i) (pairs n) ≡ from_row i (n - i)
unfolding pairs
pairs_from_row n zero l h = absurd (omega arith)
pairs_from_row n (suc zero) l h = let a : rows_before n 1 ≡ 0 = omega arith in rw a
pairs_from_row n (suc (suc a)) l h =
    let i : ℕ = suc a in
    let e : n - i - 1 ≡ n - suc i = omega arith in
    ap (λ (x : ℕ). drop x (pairs n)) (rows_before_suc n i (omega arith) (omega arith)) ∙ sym (drop-drop (n - i) (rows_before n i) (pairs n))
    ∙ ap (drop (n - i)) (pairs_from_row n (suc a) (omega arith) (omega arith) ∙ from_row_split i (n - i))
    ∙ ap (λ (x : ℕ). drop x (along_row i (suc i) (n - i) ++ from_row (suc i) (n - i - 1))) (sym (along_row_length i (suc i) (n - i)))
    ∙ drop-append_seam (along_row i (suc i) (n - i)) (from_row (suc i) (n - i - 1)) ∙ ap (from_row (suc i)) e

-- the pairs before (i, j) are the rows before i, and those of row i before column j
before_number : (n i j : ℕ) → i < j → number n i j - 1 ≡ rows_before n i + (j - suc i)
before_number n i j h = omega arith

-- the pairs from (i, j) on: the rest of row i and the rows after it
pub pairs_from : (n i j : ℕ) → 1 ≤ i → i < j → j ≤ n → drop (number n i j - 1) (pairs n) ≡ along_row i j (n + 1 - j) ++ from_row (suc i) (n - suc i)
pairs_from n i j l r h =
    let d : ℕ = j - suc i in
    let within : d ≤ n - i = omega arith in
    let b : suc i + d ≡ j = omega arith in
    let c : n - i - d ≡ n + 1 - j = omega arith in
    let e : n - i - 1 ≡ n - suc i = omega arith in
    ap (λ (x : ℕ). drop x (pairs n)) (before_number n i j r) ∙ sym (drop-drop d (rows_before n i) (pairs n))
    ∙ ap (drop d) (pairs_from_row n i l (le_of_lt (lt_of_lt_of_le r h)) ∙ from_row_split i (n - i))
    ∙ drop-append-le d (along_row i (suc i) (n - i)) (from_row (suc i) (n - i - 1)) (rw (along_row_length i (suc i) (n - i)) within)
    ∙ ap₂ ◌++◌ (along_row_drop d i (suc i) (n - i) within ∙ ap₂ (along_row i) b c) (ap (from_row (suc i)) e)

-- the number of a pair gives it back
pub pair_of_number : (n i j : ℕ) → 1 ≤ i → i < j → j ≤ n → pair_of n (number n i j) ≡ pair i j
unfolding along_row
pair_of_number n i j l r h =
    let m : ℕ = number n i j - 1 in
    let a : m ≡ m + 0 = omega arith in
    let b : n + 1 - j ≡ suc (n - j) = omega arith in
    ap (λ (x : ℕ). get_or (pairs n) x (pair 0 0)) a ∙ sym (get_or-drop m (pairs n) 0 (pair 0 0))
    ∙ ap (λ (ks : List Pair). get_or ks 0 (pair 0 0)) (pairs_from n i j l r h ∙ ap (λ (x : ℕ). along_row i j x ++ from_row (suc i) (n - suc i)) b)

-- a number is at least 1
pub number_low : (n i j : ℕ) → i < j → 1 ≤ number n i j
number_low n i j h = omega arith

-- where some is left after m - 1 are dropped, m are there
some_left : (len m rest more : ℕ) → 1 ≤ m → 1 ≤ rest → len - (m - 1) ≡ rest + more → m ≤ len
some_left len m rest more p q e = omega arith

-- and at most n(n - 1)/2
pub number_high : (n i j : ℕ) → 1 ≤ i → i < j → j ≤ n → number n i j ≤ pair_count n
number_high n i j l r h =
    rw (← pairs_length n)
    (some_left (length (pairs n)) (number n i j) (n + 1 - j) (length (from_row (suc i) (n - suc i))) (number_low n i j r) (omega arith)
    (sym (length-drop (number n i j - 1) (pairs n)) ∙ ap length (pairs_from n i j l r h)
    ∙ length-append (along_row i j (n + 1 - j)) (from_row (suc i) (n - suc i))
    ∙ ap (λ (x : ℕ). x + length (from_row (suc i) (n - suc i))) (along_row_length i j (n + 1 - j))))

-- ---- the numbers along the list

-- along a row the numbers follow one another
along_numbers : (n i j m : ℕ) → i < j → map (number_of n) (along_row i j m) ≡ count_up (number n i j) m
unfolding along_row count_up
along_numbers n i j zero h = refl
along_numbers n i j (suc m) h =
    ap {B = List ℕ} (λ r. number n i j ∷ r) (along_numbers n i (suc j) m (omega arith) ∙ ap (λ (x : ℕ). count_up x m) (number_along n i j h))

-- the first number of the next row, where row i has m + 1 pairs
row_on : (b b' n i m : ℕ) → b' ≡ b + (n - i) → i + suc m ≡ n → b' + (suc (suc i) - suc i) ≡ b + (suc i - i) + suc m
row_on b b' n i m p q = omega arith

-- and from row to row
from_numbers : (n i m : ℕ) → 1 ≤ i → i + m ≡ n → map (number_of n) (from_row i m) ≡ count_up (number n i (suc i)) (pair_count (suc m))
unfolding from_row count_up
from_numbers n i zero l e = refl
from_numbers n i (suc m) l e =
    let count : suc m + pair_count (suc m) ≡ pair_count (suc (suc m)) = omega (arith, pair_count_suc (suc m)) in
    map_append (number_of n) (along_row i (suc i) (suc m)) (from_row (suc i) m)
    ∙ ap₂ ◌++◌ (along_numbers n i (suc i) (suc m) (omega arith)) (from_numbers n (suc i) m (omega arith) (omega arith))
    ∙ ap (λ (x : ℕ). count_up (number n i (suc i)) (suc m) ++ count_up x (pair_count (suc m)))
    (row_on (rows_before n i) (rows_before n (suc i)) n i m (rows_before_suc n i l (omega arith)) e)
    ∙ sym (count_up_append (number n i (suc i)) (suc m) (pair_count (suc m)))
    ∙ ap (count_up (number n i (suc i))) count

numbers_up : (n : ℕ) → map (number_of n) (pairs n) ≡ count_up 1 (pair_count n)
unfolding pairs from_row count_up
numbers_up zero = refl
numbers_up (suc m) =
    let a : suc m - 1 ≡ m = omega arith in
    ap (λ (x : ℕ). map (number_of (suc m)) (from_row 1 x)) a ∙ from_numbers (suc m) 1 m (omega arith) (omega arith)
    ∙ ap (λ (x : ℕ). count_up x (pair_count (suc m))) (number_first (suc m))

-- the numbers run 1, 2, .., n(n - 1)/2 along the list
pub numbers : (n : ℕ) → map (number_of n) (pairs n) ≡ list_up_to (λ m. m) (pair_count n)
numbers n = numbers_up n ∙ count_up_up_to (pair_count n)

-- the pair with number m has number m
pub number_pair_of : (n m : ℕ) → 1 ≤ m → m ≤ pair_count n → number_of n (pair_of n m) ≡ m
number_pair_of n m l h =
    sym (get_or-map (number_of n) (pairs n) (m - 1) (pair 0 0))
    ∙ ap (λ (ms : List ℕ). get_or ms (m - 1) (number_of n (pair 0 0))) (numbers_up n)
    ∙ count_up_get_d 1 (pair_count n) (m - 1) (number_of n (pair 0 0)) (omega arith) ∙ omega arith

-- and is a pair of 1..n
pub pair_of_between : (n m : ℕ) → 1 ≤ m → m ≤ pair_count n → Between 1 n (pair_of n m)
pair_of_between n m l h = pairs_given n (pair_of n m) (get_d_mem (pairs n) (m - 1) (pair 0 0) (rw (pairs_length n) (omega arith)))

-- two pairs with the same number are the same
pub number_one : (n : ℕ) (k k' : Pair) → Between 1 n k → Between 1 n k' → number_of n k ≡ number_of n k' → k ≡ k'
number_one n k k' b b' e =
    sym (pair_of_number n k.row k.column b.from_low b.rising b.to_high) ∙ ap (pair_of n) e
    ∙ pair_of_number n k'.row k'.column b'.from_low b'.rising b'.to_high

-- ---- no repeats

-- no pair stands twice
pub pairs_no_repeats : (n : ℕ) → NoRepeats (pairs n)
pairs_no_repeats n = no_repeats_of_map (number_of n) (pairs n) (subst NoRepeats (sym (numbers_up n)) (count_up_no_repeats 1 (pair_count n)))

-- where the list splits at k, as many pairs stand before k as its number says
pub split_number : (n : ℕ) (k : Pair) (before after : List Pair) → pairs n ≡ before ++ k ∷ after → number_of n k ≡ suc (length before)
split_number n k before after e =
    let at : suc (length before) - 1 ≡ length before = omega arith in
    let here : pair_of n (suc (length before)) ≡ k =
    ap₂ (λ (x : ℕ) (ks : List Pair). get_or ks x (pair 0 0)) at e ∙ get_or-append_seam before k after (pair 0 0) in
    let long : pair_count n ≡ length before + suc (length after) = sym (pairs_length n) ∙ ap length e ∙ length-append before (k ∷ after) in
    ap (number_of n) (sym here) ∙ number_pair_of n (suc (length before)) (omega arith) (omega arith)

-- ---- row 1 is the start of row order

-- all pairs are those of row 1 and those of the rows after it
pub pairs_row_one : (n : ℕ) → pairs n ≡ along_row 1 2 (n - 1) ++ from_row 2 (n - 2)
unfolding pairs
pairs_row_one n = let a : n - 1 - 1 ≡ n - 2 = omega arith in from_row_split 1 (n - 1) ∙ rw a

-- the pairs (1, 2) to (1, k) come first
pub row_one_first : (n k : ℕ) → 1 ≤ k → k ≤ n → pairs n ≡ along_row 1 2 (k - 1) ++ (along_row 1 (suc k) (n - k) ++ from_row 2 (n - 2))
row_one_first n k l h =
    let a : n - 1 ≡ (k - 1) + (n - k) = omega arith in
    let b : 2 + (k - 1) ≡ suc k = omega arith in
    pairs_row_one n ∙ ap (λ (r : List Pair). r ++ from_row 2 (n - 2)) (ap (along_row 1 2) a ∙ along_row_append 1 2 (k - 1) (n - k) ∙ ap (λ (x : ℕ). along_row 1 2 (k - 1) ++ along_row 1 x (n - k)) b)
    ∙ append_assoc (along_row 1 2 (k - 1)) (along_row 1 (suc k) (n - k)) (from_row 2 (n - 2))
