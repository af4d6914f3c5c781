-- The orders of the rules are the published ones: a symmetric matrix with a zero diagonal first differs from another above the diagonal,
-- and the columns of its upper half are the pairs in column order.
use Prim.Native.Nat.{ℕ, zero, suc, ◌+◌, ◌-◌, ◌≤◌, ◌<◌}
use native.Mathlib.Nat.{eq-or-lt_of_le}
use native.Mathlib.Omega.{arith}
use mathlib.Core.Path.{◌≡◌, refl, sym, ap, ap₂, subst, subst₂, ◌∙◌}
use mathlib.Core.Logic.Iff
use mathlib.Core.Logic.{inl, inr, ◌↔◌, ⊎_elim}
use mathlib.Core.Bool.{Bool, true, false}
use mathlib.Core.List.Memᴰ
use mathlib.Core.List.{List, [], ◌∷◌, ◌++◌, map, Memᴰ, append_assoc}
use lib.Dec.{eqb}
use Rattle.laws.specs.Test.{pick}
use Rattle.laws.specs.UpTo.{list_up_to}
use Rattle.laws.specs.ListLaws.{map_append}
use Rattle.walk.specs.Earlier.{LexLess}
use Rattle.walk.proofs.Order.{earlier_lexicographic}
use Rattle.graph.specs.declared.Graph.{Graph}
use Rattle.graph.specs.Graph.{entry}
use Rattle.graph.specs.WellFormed.{WellFormed}
use Rattle.pairs.specs.Pairs.{Pair, pair, along_row, from_row, pairs}
use Rattle.pairs.specs.Columns.{down_column, columns}
use Rattle.plain.specs.Plain.{compared_in}
use Rattle.graph.specs.Counts.{entry_at}
use Rattle.judging.specs.Order.{EarlierGraph, rows_joined, matrix_word, columns_joined, column_word, word_in, FullyDrawn}
use Rattle.pairs.proofs.PairLaws.{Mirrored, entry_of, along_row_append, from_row_split, along_given, along_has}

module _ (x y : Pair → ℕ) where
  -- x read along ks is a smaller word than y
  abbrev pub Less : List Pair → Type 0
  Less ks = LexLess (map x ks) (map y ks)

  -- x and y agree on each of ks
  Agree : List Pair → Type 0
  Agree ks = (k : Pair) → Memᴰ k ks → x k ≡ y k

  -- pairs on which x and y agree change nothing
  skip : (cs ks : List Pair) → Agree cs → Less (cs ++ ks) ↔ Less ks
  unfolding LexLess Agree
  skip [] ks a = Iff.rfl
  skip (c ∷ cs) ks a =
      let rest = skip cs ks (λ k m. a k (Memᴰ.tail m)) in
      let here = a c (Memᴰ.head refl) in
      (λ h. ⊎_elim (λ (l : x c < y c). absurd (omega arith)) (λ (r : (x c ≡ y c) × Less (cs ++ ks)). rest.0 r.1) h, λ h. inr (here, rest.1 h))

  -- what follows a run of pairs is compared only where x and y agree on them
  past : (cs ks ls : List Pair) → (Agree cs → Less ks ↔ Less ls) → Less (cs ++ ks) ↔ Less (cs ++ ls)
  unfolding LexLess Agree
  past [] ks ls e = e (λ k m. absurd (Memᴰ.not-nil m))
  past (c ∷ cs) ks ls e =
      let rest : (x c ≡ y c) → Less (cs ++ ks) ↔ Less (cs ++ ls) =
      λ here. past cs ks ls (λ a. e (λ k m. ⊎_elim (λ (p : k ≡ c). ap x p ∙ here ∙ sym (ap y p)) (λ (m' : Memᴰ k cs). a k m') (Memᴰ.cases_cons m))) in (
        λ h. ⊎_elim (λ (l : x c < y c). inl l) (λ (r : (x c ≡ y c) × Less (cs ++ ks)). inr (r.0, (rest r.0).0 r.1)) h,
        λ h. ⊎_elim (λ (l : x c < y c). inl l) (λ (r : (x c ≡ y c) × Less (cs ++ ls)). inr (r.0, (rest r.0).1 r.1)) h,
      )

-- ---- matrices

-- the cells of m rows from row i on, of n columns each
cells : ℕ → ℕ → ℕ → List Pair
cells n i zero = []
cells n i (suc m) = along_row i 1 n ++ cells n (suc i) m

-- a row as a word is the matrix read along the row
row_word : (a : ℕ → ℕ → ℕ) (i n : ℕ) → list_up_to (a i) n ≡ map (entry_of a) (along_row i 1 n)
unfolding list_up_to along_row
row_word a i zero = refl
row_word a i (suc n) =
    let s : suc n ≡ n + 1 = omega arith in
    let c : 1 + n ≡ suc n = omega arith in
    ap (λ (r : List ℕ). r ++ (a i (suc n) ∷ [])) (row_word a i n)
    ∙ ap (λ (j : ℕ). map (entry_of a) (along_row i 1 n) ++ (a i j ∷ [])) (sym c)
    ∙ sym (map_append (entry_of a) (along_row i 1 n) (pair i (1 + n) ∷ []))
    ∙ ap (map (entry_of a)) (sym (along_row_append i 1 n 1) ∙ ap (along_row i 1) (sym s))

-- and so are rows joined
rows_word : (a : ℕ → ℕ → ℕ) (n i m : ℕ) → rows_joined a n i m ≡ map (entry_of a) (cells n i m)
unfolding rows_joined cells
rows_word a n i zero = refl
rows_word a n i (suc m) =
    ap₂ ◌++◌ (row_word a i n) (rows_word a n (suc i) m) ∙ sym (map_append (entry_of a) (along_row i 1 n) (cells n (suc i) m))

module _ (a b : ℕ → ℕ → ℕ) (a_mirrored : Mirrored a) (b_mirrored : Mirrored b) where
  -- a and b agree at each pair of 1..n of the rows before row i
  AgreeAbove : ℕ → ℕ → Type 0
  AgreeAbove n i = (u v : ℕ) → 1 ≤ u → u < i → u < v → v ≤ n → a u v ≡ b u v

  -- then they agree in row i up to the diagonal
  agree_left : (n i : ℕ) → i ≤ n → AgreeAbove n i → Agree (entry_of a) (entry_of b) (along_row i 1 i)
  unfolding Agree AgreeAbove
  agree_left n i l h k m =
      let w = along_given i 1 i k m in
      ⊎_elim
      (λ (e : k.column ≡ k.row).
      (ap (a k.row) e ∙ a_mirrored.diagonal k.row ∙ sym (b_mirrored.diagonal k.row) ∙ ap (b k.row) (sym e)))
      (λ (r : k.column < k.row).
      (a_mirrored.symmetric k.row k.column ∙ h k.column k.row (omega arith) (omega arith) r (omega arith)
      ∙ b_mirrored.symmetric k.column k.row))
      (eq-or-lt_of_le {n = k.column} {m = k.row} (omega arith))

  -- and where they agree in row i too, they agree in the rows before row i + 1
  agree_more : (n i m : ℕ) → i + m ≡ n → AgreeAbove n i → Agree (entry_of a) (entry_of b) (along_row i (suc i) m) → AgreeAbove n (suc i)
  unfolding Agree AgreeAbove
  agree_more n i m e h w u v p q r s =
      ⊎_elim
      (λ (z : u ≡ i).
      (ap (λ (c : ℕ). a c v) z ∙ w (pair i v) (along_has i (suc i) m (pair i v) (record { same_row = refl; from_column = omega arith; to_column = omega arith }))
      ∙ ap (λ (c : ℕ). b c v) (sym z)))
      (λ (z : u < i). h u v p z r s)
      (eq-or-lt_of_le {n = u} {m = i} (omega arith))

  -- so from row i on the whole matrices compare as their pairs do
  rows_less : (n i m : ℕ) → 1 ≤ i → i + m ≡ suc n → AgreeAbove n i
      → Less (entry_of a) (entry_of b) (cells n i m) ↔ Less (entry_of a) (entry_of b) (from_row i (m - 1))
  unfolding cells from_row
  rows_less n i zero l e h = Iff.rfl
  rows_less n i (suc m) l e h =
      let rest : List Pair = cells n (suc i) m in
      let n_is : n ≡ i + m = omega arith in
      let next : 1 + i ≡ suc i = omega arith in
      let m_is : suc m - 1 ≡ m = omega arith in
      let row_splits : along_row i 1 n ++ rest ≡ along_row i 1 i ++ (along_row i (suc i) m ++ rest) =
      ap (λ (r : List Pair). r ++ rest)
      (ap (along_row i 1) n_is ∙ along_row_append i 1 i m ∙ ap (λ (j : ℕ). along_row i 1 i ++ along_row i j m) next)
      ∙ append_assoc (along_row i 1 i) (along_row i (suc i) m) rest in
      let pairs_split : from_row i (suc m - 1) ≡ along_row i (suc i) m ++ from_row (suc i) (m - 1) = ap (from_row i) m_is ∙ from_row_split i m in
      subst₂ (λ (cs ks : List Pair). Less (entry_of a) (entry_of b) cs ↔ Less (entry_of a) (entry_of b) ks) (sym row_splits) (sym pairs_split)
      (Iff.trans (skip (entry_of a) (entry_of b) (along_row i 1 i) (along_row i (suc i) m ++ rest) (agree_left n i (omega arith) h))
      (past (entry_of a) (entry_of b) (along_row i (suc i) m) rest (from_row (suc i) (m - 1))
      (λ w. rows_less n (suc i) m (omega arith) (omega arith) (agree_more n i m (sym n_is) h w))))

  -- a symmetric matrix with a zero diagonal first differs above the diagonal
  pub first_above : (n : ℕ) → LexLess (rows_joined a n 1 n) (rows_joined b n 1 n) ↔ LexLess (map (entry_of a) (pairs n)) (map (entry_of b) (pairs n))
  unfolding pairs AgreeAbove
  first_above n =
      subst₂ (λ (v w : List ℕ). LexLess v w ↔ Less (entry_of a) (entry_of b) (pairs n)) (sym (rows_word a n 1 n)) (sym (rows_word b n 1 n))
      (rows_less n 1 n (omega arith) (omega arith) (λ u v p q r s. absurd (omega arith)))

-- ---- graphs

-- a well-formed graph's entries are such a matrix
mirrored_entries : (g : Graph) → WellFormed g → Mirrored (entry g)
mirrored_entries g w = record { symmetric = w.symmetric; diagonal = w.no_loop }

-- ---- by rows

-- the rules' order by rows is the published one
rows_order : (g h : Graph) → WellFormed g → WellFormed h → g.order ≡ h.order → LexLess (matrix_word g) (matrix_word h) ↔ Less (entry_at g) (entry_at h) (pairs g.order)
unfolding matrix_word
rows_order g h wg wh e =
    subst (λ (n : ℕ). LexLess (rows_joined (entry g) g.order 1 g.order) (rows_joined (entry h) n 1 n) ↔ Less (entry_at g) (entry_at h) (pairs g.order)) e
    (first_above (entry g) (entry h) (mirrored_entries g wg) (mirrored_entries h wh) g.order)

-- ---- by columns

-- a column as a word is the matrix read down the column
column_word_lem : (a : ℕ → ℕ → ℕ) (j m : ℕ) → list_up_to (λ i. a i j) m ≡ map (entry_of a) (down_column j m)
unfolding list_up_to down_column
column_word_lem a j zero = refl
column_word_lem a j (suc m) =
    ap (λ (r : List ℕ). r ++ (a (suc m) j ∷ [])) (column_word_lem a j m) ∙ sym (map_append (entry_of a) (down_column j m) (pair (suc m) j ∷ []))

-- and so are columns joined
columns_word : (a : ℕ → ℕ → ℕ) (n : ℕ) → columns_joined a n ≡ map (entry_of a) (columns n)
unfolding columns_joined columns
columns_word a zero = refl
columns_word a (suc n) =
    ap₂ (λ (v w : List ℕ). v ++ w) (columns_word a n) (column_word_lem a (suc n) n) ∙ sym (map_append (entry_of a) (columns n) (down_column (suc n) n))

-- so the rules' order by columns is the published one
columns_order : (g h : Graph) → g.order ≡ h.order → LexLess (column_word g) (column_word h) ↔ Less (entry_at g) (entry_at h) (columns g.order)
unfolding column_word
columns_order g h e =
    subst₂ (λ (v w : List ℕ). LexLess v w ↔ Less (entry_at g) (entry_at h) (columns g.order)) (sym (columns_word (entry g) g.order))
    (sym (columns_word (entry h) g.order) ∙ ap (columns_joined (entry h)) e) Iff.rfl

-- ---- in every mode

-- the rules' order is the published one
pub same_order : (mode : ℕ) (g h : Graph) → WellFormed g → WellFormed h → FullyDrawn g → FullyDrawn h → g.order ≡ h.order → LexLess (word_in mode g) (word_in mode h) ↔ EarlierGraph mode g h
unfolding word_in compared_in pick
same_order mode g h wg wh fg fh e = Iff.trans (at (eqb mode 2)) (Iff.symm (earlier_lexicographic (entry_at g) (entry_at h) (compared_in mode g.order) (λ k m. fg.known k.row k.column) (λ k m. fh.known k.row k.column)))
  where
    at : (b : Bool) → LexLess (pick b (column_word g) (matrix_word g)) (pick b (column_word h) (matrix_word h)) ↔ Less (entry_at g) (entry_at h) (pick b (columns g.order) (pairs g.order))
    at true = columns_order g h e
    at false = rows_order g h wg wh e
