-- What the code's steps come to along a row and along the rows.
use Prim.Native.Nat.{ℕ, zero, suc, ◌+◌, ◌-◌, ◌^◌, ◌≤◌, ◌<◌}
use native.Mathlib.Omega.{arith}
use mathlib.Core.Path.{◌≡◌, refl, sym, ap, ◌∙◌}
use mathlib.Core.Bool.{Bool, true, false}
use mathlib.Core.List.{List, [], ◌∷◌, ◌++◌}
use lib.Bits.{bit_and, bit_or}
use lib.Dec.{ltb}
use borrow.Author.Tests.{eq-eqb, ne_eqb, lt-ltb, le-ltb}
use Rattle.laws.specs.Test.{pick}
use Rattle.laws.specs.Bit.{bit}
use Rattle.arrangements.specs.Arrangement.{at}
use Rattle.pairs.specs.Pairs.{Pair, pair, along_row, from_row}
use Rattle.pairs.proofs.PairLaws.{from_row_split}
use Rattle.plain.specs.Plain.{same_pair, pair_of_two}
use Rattle.turns.specs.Turns.{all_marks, turn_by, walk_code, Within, Places}
use Rattle.row_walks.specs.RowWords.{turn_with, turn_fixed, counted_by, sources_by, unmet_by}

-- a vertex that was read there
pub within_low : (n : ℕ) (p : List ℕ) (i j v : ℕ) → Within n p → v ≡ at p j → 1 ≤ i → i < j → j ≤ n → 1 ≤ v
within_low n p i j v w e l k b = rw e (w.low j (omega arith) b)

pub within_high : (n : ℕ) (p : List ℕ) (i j v : ℕ) → Within n p → v ≡ at p j → 1 ≤ i → i < j → j ≤ n → v ≤ 32
within_high n p i j v w e l k b = rw e (w.high j (omega arith) b)

-- one at a place before another
pub start_low : (n : ℕ) (p : List ℕ) (i v : ℕ) → Within n p → v ≡ at p i → 1 ≤ i → i < n → 1 ≤ v
start_low n p i v w e l k = rw e (w.low i l (omega arith))

pub start_high : (n : ℕ) (p : List ℕ) (i v : ℕ) → Within n p → v ≡ at p i → 1 ≤ i → i < n → v ≤ 32
start_high n p i v w e l k = rw e (w.high i l (omega arith))

module _ (n : ℕ) (p q : List ℕ) (h : Places n p q) where
  pub earlier_low : (i v : ℕ) → v ≡ at p i → 1 ≤ i → i < n → 1 ≤ v
  earlier_low i v e l k = rw e (h.arranged.within.low i l (omega arith))

  pub earlier_high : (i v : ℕ) → v ≡ at p i → 1 ≤ i → i < n → v ≤ 32
  earlier_high i v e l k = rw e (h.arranged.within.high i l (omega arith))

-- what a pair does, by a bit of each word
pub turn_with_lem : (ones marks : ℕ) (p : List ℕ) (i j u v r : ℕ) → u ≡ at p i → v ≡ at p j → r ≡ turn_by (bit ones (j - 1)) (bit marks (v - 1)) (same_pair (pair_of_two u v) (pair i j))
    → r ≡ turn_with ones marks p (pair i j)
unfolding turn_with
turn_with_lem ones marks p i j u v r pu pv h = h ∙ rw (pu, pv)

-- the words of a row
pub counted_is : (edges unknowns mask x : ℕ) → x ≡ edges - bit_and edges unknowns → bit_or x (bit_and unknowns mask) ≡ counted_by edges unknowns mask
unfolding counted_by
counted_is edges unknowns mask x e = rw e

module _ (i u s later : ℕ) where
  pub sources_all : s < i → all_marks ≡ sources_by i u s later
  unfolding sources_by pick
  sources_all l = rw (lt-ltb s i l)

  module _ (k : i ≤ s) (w e : ℕ) (pw : w ≡ 2 ^ (u - 1)) (pe : e ≡ all_marks - bit_and all_marks (bit_or later w)) where
    pub sources_own : s < u → bit_or e w ≡ sources_by i u s later
    unfolding sources_by pick
    sources_own l = rw (le-ltb s i k, lt-ltb s u l, pe, pw)

    pub sources_earlier : u ≤ s → e ≡ sources_by i u s later
    unfolding sources_by pick
    sources_earlier l = rw (le-ltb s i k, le-ltb s u l, pe, pw)

module _ (i u s : ℕ) where
  pub unmet_none : u < i → 0 ≡ unmet_by i u s
  unfolding unmet_by pick
  unmet_none l = rw (lt-ltb u i l)

  module _ (k : i ≤ u) (w r : ℕ) (pw : w ≡ 2 ^ (i - 1)) where
    pub unmet_after : u < s → r ≡ all_marks - bit_and all_marks (bit_or (w - 1) w) → r ≡ unmet_by i u s
    unfolding unmet_by pick
    unmet_after l e = rw (le-ltb u i k, lt-ltb u s l) (e ∙ rw pw)

    pub unmet_from : s ≤ u → r ≡ all_marks - bit_and all_marks (w - 1) → r ≡ unmet_by i u s
    unfolding unmet_by pick
    unmet_from l e = rw (le-ltb u i k, le-ltb u s l) (e ∙ rw pw)

-- ---- along a row

module _ (t : Pair → ℕ) where
  code_first : (k : Pair) (ks : List Pair) → (t k ≡ 0 → ⊥) → walk_code t (k ∷ ks) ≡ t k
  unfolding walk_code pick
  code_first k ks h = rw (ne_eqb (t k) 0 h)

  pub code_rest : (k : Pair) (ks : List Pair) → t k ≡ 0 → walk_code t (k ∷ ks) ≡ walk_code t ks
  unfolding walk_code pick
  code_rest k ks h = rw (eq-eqb (t k) 0 h)

  along_more : (n i j : ℕ) → j ≤ n → along_row i j (n + 1 - j) ≡ pair i j ∷ along_row i (j + 1) (n + 1 - (j + 1))
  unfolding along_row
  along_more n i j h =
      let s : n + 1 - j ≡ suc (n + 1 - (j + 1)) = omega arith in
      let e : j + 1 ≡ suc j = omega arith in
      rw (s, e)

  module _ (n i j : ℕ) (whole : ℕ) (left : walk_code t (along_row i j (n + 1 - j)) ≡ whole) where
    pub row_goes_on : (c : ℕ) → j ≤ n → c ≡ t (pair i j) → c ≡ 0 → walk_code t (along_row i (j + 1) (n + 1 - (j + 1))) ≡ whole
    row_goes_on c h e z = sym (code_rest (pair i j) (along_row i (j + 1) (n + 1 - (j + 1))) (sym e ∙ z)) ∙ ap (walk_code t) (sym (along_more n i j h)) ∙ left

    pub row_ends : (c : ℕ) → j ≤ n → c ≡ t (pair i j) → (c ≡ 0 → ⊥) → c ≡ whole
    row_ends c h e z =
        e ∙ sym (code_first (pair i j) (along_row i (j + 1) (n + 1 - (j + 1))) (λ q. z (e ∙ q))) ∙ ap (walk_code t) (sym (along_more n i j h)) ∙ left

    pub row_over : n < j → 0 ≡ whole
    unfolding along_row walk_code
    row_over h = let s : n + 1 - j ≡ 0 = omega arith in rw s at left

  -- ---- along rows

  code_joined : (xs ys : List Pair) → walk_code t xs ≡ 0 → walk_code t (xs ++ ys) ≡ walk_code t ys
  unfolding walk_code pick
  code_joined [] ys h = refl
  code_joined (k ∷ xs) ys h = go (code_joined xs ys) (t k) refl
    where
      go : (walk_code t xs ≡ 0 → walk_code t (xs ++ ys) ≡ walk_code t ys) → (c : ℕ) → t k ≡ c → walk_code t (k ∷ xs ++ ys) ≡ walk_code t ys
      go rest zero e = code_rest k (xs ++ ys) e ∙ rest (sym (code_rest k xs e) ∙ h)
      go rest (suc c) e = absurd (omega (arith, sym e ∙ sym (code_first k xs (λ (z : t k ≡ 0). omega (arith, sym e ∙ z))) ∙ h))

  code_settled : (xs ys : List Pair) → (walk_code t xs ≡ 0 → ⊥) → walk_code t (xs ++ ys) ≡ walk_code t xs
  unfolding walk_code pick
  code_settled [] ys h = absurd (h refl)
  code_settled (k ∷ xs) ys h = go (code_settled xs ys) (t k) refl
    where
      go : ((walk_code t xs ≡ 0 → ⊥) → walk_code t (xs ++ ys) ≡ walk_code t xs) → (c : ℕ) → t k ≡ c → walk_code t (k ∷ xs ++ ys) ≡ walk_code t (k ∷ xs)
      go rest zero e = code_rest k (xs ++ ys) e ∙ rest (λ z. h (code_rest k xs e ∙ z)) ∙ sym (code_rest k xs e)
      go rest (suc c) e = let z : t k ≡ 0 → ⊥ = λ q. omega (arith, sym e ∙ q) in code_first k (xs ++ ys) z ∙ sym (code_first k xs z)

  pub row_and_rest : (n i : ℕ) → i < n → from_row i (n - i) ≡ along_row i (i + 1) (n + 1 - (i + 1)) ++ from_row (i + 1) (n - (i + 1))
  row_and_rest n i h =
      let a : n + 1 - (i + 1) ≡ n - i = omega arith in
      let b : i + 1 ≡ suc i = omega arith in
      let c : n - suc i ≡ n - i - 1 = omega arith in
      rw (a, b, c) (from_row_split i (n - i))

  module _ (n i : ℕ) (whole : ℕ) (left : walk_code t (from_row i (n - i)) ≡ whole) where
    pub rows_go_on : (c : ℕ) → i < n → c ≡ walk_code t (along_row i (i + 1) (n + 1 - (i + 1))) → c ≡ 0 → walk_code t (from_row (i + 1) (n - (i + 1))) ≡ whole
    rows_go_on c h e z =
        sym (code_joined (along_row i (i + 1) (n + 1 - (i + 1))) (from_row (i + 1) (n - (i + 1))) (sym e ∙ z)) ∙ ap (walk_code t) (sym (row_and_rest n i h)) ∙ left

    pub rows_pass : (b : Bool) → i < n → (b ≡ true → 0 ≡ walk_code t (along_row i (i + 1) (n + 1 - (i + 1)))) → b ≡ true → walk_code t (from_row (i + 1) (n - (i + 1))) ≡ whole
    rows_pass b h f y = rows_go_on 0 h (f y) refl

    pub rows_end : (c : ℕ) → i < n → c ≡ walk_code t (along_row i (i + 1) (n + 1 - (i + 1))) → (c ≡ 0 → ⊥) → c ≡ whole
    rows_end c h e z =
        e ∙ sym (code_settled (along_row i (i + 1) (n + 1 - (i + 1))) (from_row (i + 1) (n - (i + 1))) (λ q. z (e ∙ q))) ∙ ap (walk_code t) (sym (row_and_rest n i h)) ∙ left

    pub rows_over : n ≤ i → 0 ≡ whole
    unfolding from_row walk_code
    rows_over h = let s : n - i ≡ 0 = omega arith in rw s at left

  -- the second row, and the rows after it

  pub second_none : (n : ℕ) → n < 3 → 0 ≡ walk_code t (from_row 2 (n - 2))
  second_none n h = rows_over n 2 (walk_code t (from_row 2 (n - 2))) refl (omega arith)

  module _ (n c : ℕ) (h : 3 ≤ n) (e : c ≡ walk_code t (along_row 2 3 (n + 1 - 3))) where
    pub second_ends : (c ≡ 0 → ⊥) → c ≡ walk_code t (from_row 2 (n - 2))
    second_ends z = rows_end n 2 (walk_code t (from_row 2 (n - 2))) refl c (omega arith) e z

    pub second_goes_on : c ≡ 0 → (r : ℕ) → r ≡ walk_code t (from_row 3 (n - 3)) → r ≡ walk_code t (from_row 2 (n - 2))
    second_goes_on z r q = q ∙ rows_go_on n 2 (walk_code t (from_row 2 (n - 2))) refl c (omega arith) e z

-- a pair of a row by words, and then the row's other pairs
module _ (n i j whole v c : ℕ) (p : List ℕ) (h : j ≤ n) (pv : v ≡ at p j) where
  module _ (u ones marks : ℕ) (left : walk_code (turn_with ones marks p) (along_row i j (n + 1 - j)) ≡ whole) (pu : u ≡ at p i) (pc : c ≡ turn_by (bit ones (j - 1)) (bit marks (v - 1)) (same_pair (pair_of_two u v) (pair i j))) where
    pub words_go_on : c ≡ 0 → walk_code (turn_with ones marks p) (along_row i (j + 1) (n + 1 - (j + 1))) ≡ whole
    words_go_on = row_goes_on (turn_with ones marks p) n i j whole left c h (turn_with_lem ones marks p i j u v c pu pv pc)

    pub words_end : (c ≡ 0 → ⊥) → c ≡ whole
    words_end = row_ends (turn_with ones marks p) n i j whole left c h (turn_with_lem ones marks p i j u v c pu pv pc)

  -- where vertex i stands at place i
  module _ (q : List ℕ) (ones doubts sure t here there : ℕ) (left : walk_code (turn_fixed ones doubts p q) (along_row i j (n + 1 - j)) ≡ whole) (ps : sure ≡ ones - bit_and ones doubts) (pt : t ≡ at q j)
      (ph : here ≡ pick (ltb t j) (bit_or ones doubts) sure) (pi : there ≡ pick (ltb v j) sure (bit_or ones doubts)) (pc : c ≡ turn_by (bit here (j - 1)) (bit there (v - 1)) (same_pair (pair_of_two i v) (pair i j))) where
    fixed_is : c ≡ turn_fixed ones doubts p q (pair i j)
    unfolding turn_fixed
    fixed_is = pc ∙ rw (ph, pi, ps, pt, pv)

    pub fixed_goes_on : c ≡ 0 → walk_code (turn_fixed ones doubts p q) (along_row i (j + 1) (n + 1 - (j + 1))) ≡ whole
    fixed_goes_on = row_goes_on (turn_fixed ones doubts p q) n i j whole left c h fixed_is

    pub fixed_ends : (c ≡ 0 → ⊥) → c ≡ whole
    fixed_ends = row_ends (turn_fixed ones doubts p q) n i j whole left c h fixed_is

-- one of two words
pub chosen_first : (b : Bool) (x y : ℕ) → b ≡ true → x ≡ pick b x y
unfolding pick
chosen_first b x y e = rw e

pub chosen_second : (b : Bool) (x y : ℕ) → b ≡ false → y ≡ pick b x y
unfolding pick
chosen_second b x y e = rw e
