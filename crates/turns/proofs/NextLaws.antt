-- The pairs after one are those that are compared after it, and which comes next.
use Prim.Native.Nat.{ℕ, zero, suc, ◌+◌, ◌-◌, ◌≤◌, ◌<◌}
use native.Mathlib.Omega.{arith}
use mathlib.Core.Path.{◌≡◌, refl, sym, ap, ap₂, ◌∙◌}
use mathlib.Core.Logic.{◌≢◌}
use mathlib.Core.Bool.{Bool, true, false}
use mathlib.Core.List.{List, [], ◌∷◌, ◌++◌, append-nil, append_assoc}
use lib.Dec.{eqb}
use lib.ListN.{length, take, take-append-drop}
use borrow.Author.Tests.{eq-eqb, ne_eqb}
use Rattle.laws.specs.Test.{pick}
use Rattle.laws.specs.TestLaws.{pick_true, pick_false}
use Rattle.pairs.specs.Pairs.{Pair, pair, pairs, Between, along_row, from_row, number}
use Rattle.pairs.specs.Columns.{down_column, columns}
use Rattle.pairs.proofs.PairLaws.{pairs_from, pairs_row_one}
use Rattle.plain.specs.Plain.{compared_in}
use Rattle.turns.specs.Next.{down_from, columns_from, rows_after, columns_after, pairs_after, starting_at}

-- ---- columns from one on

down_append : (i j a b : ℕ) → down_from i j (a + b) ≡ down_from i j a ++ down_from (i + a) j b
unfolding down_from
down_append i j zero b = let s : i + 0 ≡ i = omega arith in let z : 0 + b ≡ b = omega arith in rw (s, z)
down_append i j (suc a) b =
    let s : i + suc a ≡ suc i + a = omega arith in
    let z : suc a + b ≡ suc (a + b) = omega arith in
    rw (s, z, down_append (suc i) j a b)

columns_append : (j a b : ℕ) → columns_from j (a + b) ≡ columns_from j a ++ columns_from (j + a) b
unfolding columns_from
columns_append j zero b = let s : j + 0 ≡ j = omega arith in let z : 0 + b ≡ b = omega arith in rw (s, z)
columns_append j (suc a) b =
    let s : j + suc a ≡ suc j + a = omega arith in
    let z : suc a + b ≡ suc (a + b) = omega arith in
    rw (s, z, columns_append (suc j) a b) (sym (append_assoc (down_from 1 j (j - 1)) (columns_from (suc j) a) (columns_from (suc j + a) b)))

down_column_lem : (j m : ℕ) → down_column j m ≡ down_from 1 j m
unfolding down_column down_from
down_column_lem j zero = refl
down_column_lem j (suc m) =
    let s : m + 1 ≡ suc m = omega arith in
    let z : 1 + m ≡ suc m = omega arith in
    ap (λ (ks : List Pair). ks ++ (pair (suc m) j ∷ [])) (down_column_lem j m) ∙ (rw (s, z) at (sym (down_append 1 j m 1)))

all_columns : (n : ℕ) → columns n ≡ columns_from 1 n
unfolding columns columns_from
all_columns zero = refl
all_columns (suc n) =
    let s : n + 1 ≡ suc n = omega arith in
    let z : 1 + n ≡ suc n = omega arith in
    let y : suc n - 1 ≡ n = omega arith in
    let one : columns_from (suc n) 1 ≡ down_from 1 (suc n) n = rw y (append-nil (down_from 1 (suc n) n)) in
    ap₂ (λ (ks ls : List Pair). ks ++ ls) (all_columns n) (down_column_lem (suc n) n ∙ sym one) ∙ (rw (s, z) at (sym (columns_append 1 n 1)))

-- ---- the pairs after one

module _ (n i j : ℕ) (low : 1 ≤ i) (rising : i < j) (high : j ≤ n) where
  rows_split : (xs : List Pair) × (pairs n ≡ xs ++ pair i j ∷ rows_after n (pair i j))
  unfolding rows_after along_row
  rows_split =
      let m : ℕ = number n i j - 1 in
      let s : n + 1 - j ≡ suc (n - j) = omega arith in
      (take m (pairs n), sym (take-append-drop m (pairs n)) ∙ ap (λ (ys : List Pair). take m (pairs n) ++ ys) (rw s at (pairs_from n i j low rising high)))

  columns_split : (xs : List Pair) × (columns n ≡ xs ++ pair i j ∷ columns_after n (pair i j))
  unfolding columns_after columns_from down_from
  columns_split =
      let a : n ≡ (j - 1) + suc (n - j) = omega arith in
      let b : j - 1 ≡ (i - 1) + suc (j - suc i) = omega arith in
      let c : 1 + (j - 1) ≡ j = omega arith in
      let d : 1 + (i - 1) ≡ i = omega arith in
      let down : down_from 1 j (j - 1) ≡ down_from 1 j (i - 1) ++ pair i j ∷ down_from (suc i) j (j - suc i) = ap (down_from 1 j) b ∙ (rw d at (down_append 1 j (i - 1) (suc (j - suc i)))) in (
        columns_from 1 (j - 1) ++ down_from 1 j (i - 1),
        all_columns n ∙ ap (columns_from 1) a ∙ (rw c at (columns_append 1 (j - 1) (suc (n - j))))
            ∙ ap (λ (ks : List Pair). columns_from 1 (j - 1) ++ (ks ++ columns_from (suc j) (n - j))) down
            ∙ ap (λ (ks : List Pair). columns_from 1 (j - 1) ++ ks) (append_assoc (down_from 1 j (i - 1)) (pair i j ∷ down_from (suc i) j (j - suc i)) (columns_from (suc j) (n - j)))
            ∙ sym (append_assoc (columns_from 1 (j - 1)) (down_from 1 j (i - 1)) _),
      )

-- of the pairs as they are compared, those after a listed one
pub compared_split : (mode n : ℕ) (k : Pair) → Between 1 n k → (xs : List Pair) × (compared_in mode n ≡ xs ++ k ∷ pairs_after mode n k)
unfolding compared_in pairs_after pick
compared_split mode n k b = at (eqb mode 2)
  where
    at : (by_columns_lem : Bool) → (xs : List Pair) × (pick by_columns_lem (columns n) (pairs n) ≡ xs ++ k ∷ pick by_columns_lem (columns_after n k) (rows_after n k))
    at true = columns_split n k.row k.column b.from_low b.rising b.to_high
    at false = rows_split n k.row k.column b.from_low b.rising b.to_high

-- all of them: (1, 2) and those after it
pub compared_first : (mode n : ℕ) → 2 ≤ n → compared_in mode n ≡ pair 1 2 ∷ pairs_after mode n (pair 1 2)
unfolding compared_in pairs_after pick columns_after rows_after columns_from down_from along_row
compared_first mode n two = at (eqb mode 2)
  where
    at : (by_columns_lem : Bool) → pick by_columns_lem (columns n) (pairs n) ≡ pair 1 2 ∷ pick by_columns_lem (columns_after n (pair 1 2)) (rows_after n (pair 1 2))
    at true = let s : n ≡ suc (suc (n - 2)) = omega arith in all_columns n ∙ ap (columns_from 1) s
    at false = let s : n - 1 ≡ suc (n - 2) = omega arith in rw s at (pairs_row_one n)

-- below order 2 there are none
pub compared_none : (mode n : ℕ) → n < 2 → compared_in mode n ≡ []
unfolding compared_in columns down_column pairs from_row pick
compared_none mode zero few = at (eqb mode 2)
  where
    at : (by_columns_lem : Bool) → pick by_columns_lem (columns 0) (pairs 0) ≡ []
    at true = refl
    at false = refl
compared_none mode (suc zero) few = at (eqb mode 2)
  where
    at : (by_columns_lem : Bool) → pick by_columns_lem (columns 1) (pairs 1) ≡ []
    at true = refl
    at false = refl
compared_none mode (suc (suc n)) few = absurd (omega arith)

-- ---- the next one

module _ (after : Pair → List Pair) where
  pub starting_here : (i j : ℕ) → i ≢ 0 → starting_at after (pair i j) ≡ pair i j ∷ after (pair i j)
  unfolding starting_at
  starting_here i j some = pick_false (eqb i 0) [] (pair i j ∷ after (pair i j)) (ne_eqb i 0 some)

  pub starting_none : (i j : ℕ) → i ≡ 0 → starting_at after (pair i j) ≡ []
  unfolding starting_at
  starting_none i j none = pick_true (eqb i 0) [] (pair i j ∷ after (pair i j)) (eq-eqb i 0 none)

module _ (n i j : ℕ) (low : 1 ≤ i) (rising : i < j) (high : j ≤ n) where
  -- by rows
  pub along_next : j < n → rows_after n (pair i j) ≡ starting_at (rows_after n) (pair i (j + 1))
  unfolding rows_after along_row
  along_next h =
      let s : n - j ≡ suc (n - suc j) = omega arith in
      let e : j + 1 ≡ suc j = omega arith in
      rw (s, e) (sym (starting_here (rows_after n) i (suc j) (λ z. omega arith)))

  pub row_next : n ≤ j → i + 1 < n → rows_after n (pair i j) ≡ starting_at (rows_after n) (pair (i + 1) (i + 2))
  unfolding rows_after along_row from_row
  row_next d h =
      let z : n - j ≡ 0 = omega arith in
      let s : n - suc i ≡ suc (n - suc (suc i)) = omega arith in
      let a : i + 1 ≡ suc i = omega arith in
      let b : i + 2 ≡ suc (suc i) = omega arith in
      rw (z, s, a, b) (sym (starting_here (rows_after n) (suc i) (suc (suc i)) (λ z. omega arith)))

  pub rows_end : n ≤ j → n ≤ i + 1 → rows_after n (pair i j) ≡ starting_at (rows_after n) (pair 0 0)
  unfolding rows_after along_row from_row
  rows_end d h =
      let z : n - j ≡ 0 = omega arith in
      let s : n - suc i ≡ 0 = omega arith in
      rw (z, s) (sym (starting_none (rows_after n) 0 0 refl))

  -- by columns
  pub down_next : i + 1 < j → columns_after n (pair i j) ≡ starting_at (columns_after n) (pair (i + 1) j)
  unfolding columns_after down_from
  down_next h =
      let s : j - suc i ≡ suc (j - suc (suc i)) = omega arith in
      let e : i + 1 ≡ suc i = omega arith in
      rw (s, e) (sym (starting_here (columns_after n) (suc i) j (λ z. omega arith)))

  pub column_next : j ≤ i + 1 → j < n → columns_after n (pair i j) ≡ starting_at (columns_after n) (pair 1 (j + 1))
  unfolding columns_after columns_from down_from
  column_next d h =
      let z : j - suc i ≡ 0 = omega arith in
      let s : n - j ≡ suc (n - suc j) = omega arith in
      let e : j + 1 ≡ suc j = omega arith in
      let f : suc j - 1 ≡ suc (suc j - 2) = omega arith in
      rw (z, s, e, f) (sym (starting_here (columns_after n) 1 (suc j) (λ z. omega arith)))

  pub columns_end : j ≤ i + 1 → n ≤ j → columns_after n (pair i j) ≡ starting_at (columns_after n) (pair 0 0)
  unfolding columns_after columns_from down_from
  columns_end d h =
      let z : j - suc i ≡ 0 = omega arith in
      let s : n - j ≡ 0 = omega arith in
      rw (z, s) (sym (starting_none (columns_after n) 0 0 refl))

-- ---- a loop along them

-- fewer are left at the next one
pub fewer_left : (after : Pair → List Pair) (i j : ℕ) (k : Pair) → 1 ≤ i → after (pair i j) ≡ starting_at after k
    → length (starting_at after k) < length (starting_at after (pair i j))
fewer_left after i j k some next = rw (starting_here after i j (λ z. omega arith), ← next) (omega arith)

-- ---- in the order that a mode names

module _ (mode n i j : ℕ) (k : Pair) where
  pub next_by_columns : mode ≡ 2 → columns_after n (pair i j) ≡ starting_at (columns_after n) k → pairs_after mode n (pair i j) ≡ starting_at (pairs_after mode n) k
  unfolding pairs_after starting_at pick
  next_by_columns e h = rw (eq-eqb mode 2 e) h

  pub next_by_rows : mode ≢ 2 → rows_after n (pair i j) ≡ starting_at (rows_after n) k → pairs_after mode n (pair i j) ≡ starting_at (pairs_after mode n) k
  unfolding pairs_after starting_at pick
  next_by_rows d h = rw (ne_eqb mode 2 d) h
