-- The pairs in column order: which they are, each once, and which come first.
use Prim.Native.Nat.{ℕ, zero, suc, ◌≤◌}
use native.Mathlib.Omega.{arith}
use mathlib.Core.Path.{◌≡◌, sym, ap, ◌∙◌}
use mathlib.Core.Logic.{⊎_elim}
use mathlib.Core.List.{List, [], ◌∷◌, ◌++◌, append-nil, append_assoc, Memᴰ}
use Rattle.laws.specs.Compared.{by_same}
use Rattle.laws.specs.ListLaws.{NoRepeats, no_repeats_append, no_repeats_one}
use Rattle.pairs.specs.Pairs.{Pair, pair, Between}
use Rattle.pairs.specs.Columns.{down_column, columns}

-- ---- one column

-- k stands in column j, at one of the rows 1..m
pub record Down (j m : ℕ) (k : Pair) : Type 0 where
  pub low : 1 ≤ k.row
  pub high : k.row ≤ m
  pub same_column : k.column ≡ j

-- only such pairs stand down the column
pub down_given : (j m : ℕ) (k : Pair) → Memᴰ k (down_column j m) → Down j m k
unfolding down_column
down_given j zero k h = absurd (mathlib.Core.List.Memᴰ.not-nil h)
down_given j (suc m) k h =
    ⊎_elim {C = Down j (suc m) k} (λ (i : Memᴰ k (down_column j m)). let d = down_given j m k i in omega arith)
    (λ (i : Memᴰ k (pair (suc m) j ∷ [])).
    let e : k ≡ pair (suc m) j = mathlib.Core.List.Memᴰ.eq_of_singleton i in
    let r : k.row ≡ suc m = ap (λ x. x.row) e in
    let c : k.column ≡ j = ap (λ x. x.column) e in
    omega arith)
    (mathlib.Core.List.Memᴰ.append_cases (down_column j m) h)

-- and all of them
down_has : (j m : ℕ) (k : Pair) → Down j m k → Memᴰ k (down_column j m)
unfolding down_column
down_has j zero k d = absurd (omega arith)
down_has j (suc m) k d =
    by_same k.row (suc m)
    (λ e. mathlib.Core.List.Memᴰ.append_right (down_column j m) (mathlib.Core.List.Memᴰ.head (λ i. record { row = e i; column = d.same_column i })))
    (λ ne. mathlib.Core.List.Memᴰ.append_left (pair (suc m) j ∷ []) (down_has j m k (omega arith)))

down_once : (j m : ℕ) → NoRepeats (down_column j m)
unfolding down_column NoRepeats
down_once j zero = tt
down_once j (suc m) =
    no_repeats_append (down_column j m) (pair (suc m) j ∷ []) (down_once j m) (no_repeats_one (pair (suc m) j))
    (λ k a b. let d = down_given j m k a in let r : k.row ≡ suc m = ap (λ x. x.row) (mathlib.Core.List.Memᴰ.eq_of_singleton b) in omega arith)

-- ---- all columns

pub columns_given : (n : ℕ) (k : Pair) → Memᴰ k (columns n) → Between 1 n k
unfolding columns
columns_given zero k h = absurd (mathlib.Core.List.Memᴰ.not-nil h)
columns_given (suc n) k h =
    ⊎_elim {C = Between 1 (suc n) k} (λ (i : Memᴰ k (columns n)). let b = columns_given n k i in omega arith)
    (λ (i : Memᴰ k (down_column (suc n) n)). let d = down_given (suc n) n k i in omega arith)
    (mathlib.Core.List.Memᴰ.append_cases (columns n) h)

pub columns_has : (n : ℕ) (k : Pair) → Between 1 n k → Memᴰ k (columns n)
unfolding columns
columns_has zero k b = absurd (omega arith)
columns_has (suc n) k b =
    by_same k.column (suc n) (λ e. mathlib.Core.List.Memᴰ.append_right (columns n) (down_has (suc n) n k (omega arith)))
    (λ ne. mathlib.Core.List.Memᴰ.append_left (down_column (suc n) n) (columns_has n k (omega arith)))

pub columns_once : (n : ℕ) → NoRepeats (columns n)
unfolding columns NoRepeats
columns_once zero = tt
columns_once (suc n) =
    no_repeats_append (columns n) (down_column (suc n) n) (columns_once n) (down_once (suc n) n)
    (λ k a b. let c = columns_given n k a in let d = down_given (suc n) n k b in omega arith)

-- the pairs of the first m vertices come first
pub columns_first : (m n : ℕ) → m ≤ n → (rest : List Pair) × (columns n ≡ columns m ++ rest)
unfolding columns
columns_first m zero h = let e : 0 ≡ m = omega arith in ([], rw (← e))
columns_first m (suc n) h =
    by_same m (suc n) (λ e. ([], rw e (sym (append-nil (columns (suc n))))))
    (λ ne.
    let r = columns_first m n (omega arith) in
    (r.0 ++ down_column (suc n) n, ap (λ ks. ks ++ down_column (suc n) n) r.1 ∙ append_assoc (columns m) r.0 (down_column (suc n) n)))
