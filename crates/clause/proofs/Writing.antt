-- The pass over the pairs that writes a clause: what holds at each turn of its loops, and what it leaves.
use Prim.Native.Nat.{ℕ, zero, suc, ◌+◌, ◌-◌, ◌/◌, ◌^◌, ◌≤◌, ◌<◌}
use native.Mathlib.Omega.{arith}
use mathlib.Core.Path.{◌≡◌, refl, sym, ap, ap₂, ◌∙◌}
use mathlib.Core.Logic.{◌≢◌}
use mathlib.Core.Bool.{Bool, true, false}
use mathlib.Core.List.{List, [], ◌∷◌, ◌++◌, append_assoc, append-nil}
use lib.IntN.{ℤ}
use lib.ListN.{length, take, drop, take-append-drop, length-append, length-drop}
use lib.Seq.{take_at, drop_at, drop-drop, length-take-le}
use lib.Count.{count_trailing_zeros}
use lib.Dec.{eqb}
use Rattle.laws.specs.Compared.{by_same}
use Rattle.laws.specs.Bit.{bit}
use Rattle.laws.specs.BitLaws.{bit_of_zero, bits_past, below_of_bits}
use Rattle.laws.specs.Masks.{not_empty, lowest_below}
use Rattle.walk.specs.Clause.{numbered}
use Rattle.pairs.specs.Pairs.{Pair, pair, along_row, from_row, pairs, pair_count, number}
use Rattle.pairs.proofs.PairLaws.{pair_count_mono, number_first, number_next_row, number_low, number_high, along_row_length}
use Rattle.clause.specs.Clauses.{written_for, written_along, Wrote}
use Rattle.kinds.specs.Kinds.{Ahead}
use Rattle.exploring.proofs.MaskLaws.{lowest_least, shifted}
use Rattle.row_walks.proofs.CodeRows.{row_and_rest}

-- ---- texts in the buffer

-- nothing is written after the literals
wrote_none : (buffer : List ℤ) (count : ℕ) → Wrote [] buffer count buffer count
wrote_none buffer count =
    let z : count + 0 ≡ count = omega arith in
    record { counted = sym z; written = rw (z, append-nil (take count buffer)) (sym (take-append-drop count buffer)) }

-- one text after another
module _ (a b old mid new : List ℤ) (count some more : ℕ) (first : Wrote a old count mid some) (second : Wrote b mid some new more) (room : count ≤ length old) where
  front : length (take count old ++ a) ≡ some
  front = length-append (take count old) a ∙ ap (λ (x : ℕ). x + length a) (length-take-le count old room) ∙ sym first.counted

  kept : drop (some + length b) mid ≡ drop (count + length (a ++ b)) old
  kept =
      let s : count + length a + length b ≡ count + length (a ++ b) = omega (arith, length-append a b) in
      sym (drop-drop (length b) some mid)
      ∙ ap (drop (length b)) (ap (drop some) first.written ∙ drop_at (take count old ++ a) (drop (count + length a) old) some front)
      ∙ drop-drop (length b) (count + length a) old ∙ ap (λ (x : ℕ). drop x old) s

  begun : take some mid ++ b ≡ take count old ++ (a ++ b)
  begun =
      ap (λ (l : List ℤ). l ++ b) (ap (take some) first.written ∙ take_at (take count old ++ a) (drop (count + length a) old) some front)
      ∙ append_assoc (take count old) a b

  wrote_both : Wrote (a ++ b) old count new more
  wrote_both =
      record {
        counted = second.counted ∙ omega (arith, first.counted, length-append a b);
        written = second.written ∙ ap₂ ◌++◌ begun kept;
      }

-- the buffer keeps its length
wrote_long : (text old new : List ℤ) (count r : ℕ) → Wrote text old count new r → r ≤ length old → length new ≡ length old
wrote_long text old new count r w room =
    ap length w.written ∙ length-append (take count old ++ text) (drop (count + length text) old)
    ∙ omega (arith, length-append (take count old) text, length-take-le count old (omega (arith, w.counted)), length-drop (count + length text) old, w.counted)

-- ---- what is written along pairs

-- a pair is written once at most
written_once : (kind m : ℕ) → length (written_for kind m) ≤ 1
unfolding written_for numbered
written_once kind m = go (eqb kind 1) (eqb kind 2)
  where
    go : (a p : Bool) → length (numbered a p m []) ≤ 1
    go true p = omega arith
    go false true = omega arith
    go false false = omega arith

-- nothing is written for kind 0
none_written : (m : ℕ) → written_for 0 m ≡ []
unfolding written_for numbered
none_written m = refl

module _ (t : Pair → ℕ) where
  along_most : (a : ℕ) (ks : List Pair) → length (written_along t a ks) ≤ length ks
  unfolding written_along
  along_most a [] = omega arith
  along_most a (k ∷ ks) =
      omega (arith, length-append (written_for (t k) (suc a)) (written_along t (suc a) ks), written_once (t k) (suc a), along_most (suc a) ks)

  along_both : (a : ℕ) (ks ls : List Pair) → written_along t a (ks ++ ls) ≡ written_along t a ks ++ written_along t (a + length ks) ls
  unfolding written_along
  along_both a [] ls = let z : a + 0 ≡ a = omega arith in rw z
  along_both a (k ∷ ks) ls =
      let s : a + suc (length ks) ≡ suc a + length ks = omega arith in
      rw (s, along_both (suc a) ks ls) (sym (append_assoc (written_for (t k) (suc a)) (written_along t (suc a) ks) (written_along t (suc a + length ks) ls)))

  -- pairs of kind 0 are passed over
  along_skips : (i j a d m : ℕ) → ((x : ℕ) → x < d → t (pair i (j + x)) ≡ 0) → written_along t a (along_row i j (d + m)) ≡ written_along t (a + d) (along_row i (j + d) m)
  unfolding written_along along_row
  along_skips i j a zero m none = let y : a + 0 ≡ a = omega arith in let z : j + 0 ≡ j = omega arith in let w : 0 + m ≡ m = omega arith in rw (y, z, w)
  along_skips i j a (suc d) m none =
      let w : suc d + m ≡ suc (d + m) = omega arith in
      let y : a + suc d ≡ suc a + d = omega arith in
      let z : j + suc d ≡ suc j + d = omega arith in
      let here : t (pair i j) ≡ 0 = let w : j + 0 ≡ j = omega arith in rw w at (none 0 (omega arith)) in
      rw (w, here, none_written (suc a), y, z)
      (along_skips i (suc j) (suc a) d m (λ x l. let w : j + suc x ≡ suc j + x = omega arith in rw w at (none (suc x) (omega arith))))

-- ---- along a row

-- before the turn at column j, whose number is m: what is written of the row and what is still to come is all of it
pub record Along (t : Pair → ℕ) (n i start : ℕ) (old new : List ℤ) (left j m count : ℕ) : Type 0 where
  pub done : List ℤ
  pub wrote : Wrote done old start new count
  pub rest : done ++ written_along t (m - 1) (along_row i j (n + 1 - j)) ≡ written_along t (number n i (i + 1) - 1) (along_row i (i + 1) (n + 1 - (i + 1)))
  pub low : 1 ≤ i
  pub high : n ≤ 32
  pub rising : i < j
  pub columns : j ≤ n + 1
  pub here : m ≡ number n i j
  pub few : count < m
  pub room : pair_count n ≤ length old
  pub long : length new ≡ length old
  pub fits : left < 2 ^ (n + 1 - j)
  pub ahead : Ahead t n i j left

pub along_begins : (t : Pair → ℕ) (n i : ℕ) (old : List ℤ) (left m count : ℕ) → n ≤ 32 → 1 ≤ i → i < n → count < number n i (i + 1) → pair_count n ≤ length old
    → left < 2 ^ (n + 1 - (i + 1)) → Ahead t n i (i + 1) left → m ≡ number n i (i + 1) → Along t n i count old old left (i + 1) m count
along_begins t n i old left m count high low more few room fits ahead here =
    record {
      done = [];
      wrote = wrote_none old count;
      rest = rw here;
      low = low;
      high = high;
      rising = omega arith;
      columns = omega arith;
      here = here;
      few = omega (arith, few, here);
      room = room;
      long = refl;
      fits = fits;
      ahead = ahead;
    }

number_skips : (n i j k m : ℕ) → i < j → m ≡ number n i j → m + k ≡ number n i (j + k)
number_skips n i j k m l e = omega arith

module _ (t : Pair → ℕ) (n i start : ℕ) (old new : List ℤ) (left j m count : ℕ) (w : Along t n i start old new left j m count) where
  -- where no column is left, the row is written
  module _ (over : left ≡ 0) where
    none_left : (x : ℕ) → x < n + 1 - j → t (pair i (j + x)) ≡ 0
    none_left x l =
        by_same (t (pair i (j + x))) 0 (λ e. e) (λ d. absurd (omega (arith, w.ahead.has x (omega arith) d, ap (λ (y : ℕ). bit y x) over, bit_of_zero x)))

    whole : w.done ≡ written_along t (number n i (i + 1) - 1) (along_row i (i + 1) (n + 1 - (i + 1)))
    unfolding written_along along_row
    whole =
        let z : n + 1 - j + 0 ≡ n + 1 - j = omega arith in
        let none = rw z at (along_skips t i j (m - 1) (n + 1 - j) 0 none_left) in
        sym (append-nil w.done) ∙ ap (λ (l : List ℤ). w.done ++ l) (sym none) ∙ w.rest

    pub along_done : Wrote (written_along t (number n i (i + 1) - 1) (along_row i (i + 1) (n + 1 - (i + 1)))) old start new count
    along_done = rw whole at w.wrote

  -- the next column that is left
  module _ (some : left ≢ 0) (k : ℕ) (is_lowest : k ≡ count_trailing_zeros 32 left) where
    in_row : k < n + 1 - j
    in_row = lowest_below left (n + 1 - j) k is_lowest w.fits (omega (arith, w.high, w.rising)) (not_empty left some)

    pub column_in_lem : j + k ≤ n
    column_in_lem = omega (arith, in_row)

    pub column_after : i < j + k
    column_after = omega (arith, w.rising)

    number_in : m + k ≤ pair_count n
    number_in = rw (number_skips n i j k m w.rising w.here) (number_high n i (j + k) w.low column_after column_in_lem)

    pub number_small : m + k ≤ 496
    number_small = omega (arith, number_in, pair_count_mono n 32 w.high)

    -- nothing is past a word
    pub lowest_small : k < 32
    lowest_small = omega (arith, in_row, w.high, w.rising)

    pub column_fits : j + k < 2 ^ 32
    column_fits = omega (arith, column_in_lem, w.high)

    pub next_column_fits : j + k + 1 < 2 ^ 32
    next_column_fits = omega (arith, column_in_lem, w.high)

    pub number_fits : m + k < 2 ^ 32
    number_fits = omega (arith, number_small)

    pub next_number_fits : m + k + 1 < 2 ^ 32
    next_number_fits = omega (arith, number_small)

    -- fewer columns are left
    pub fewer_left : n + 1 - (j + k + 1) < n + 1 - j
    fewer_left = omega (arith, column_in_lem)

    pub room_left : count < length new
    room_left = omega (arith, number_in, w.few, w.room, w.long)

    skipped : (x : ℕ) → x < k → t (pair i (j + x)) ≡ 0
    skipped x l =
        by_same (t (pair i (j + x))) 0 (λ e. e)
        (λ d.
        absurd
        (lowest_least left (n + 1 - j) k is_lowest w.fits (omega (arith, w.high, w.rising)) some x l (w.ahead.has x (omega (arith, column_in_lem)) d)))

    module _ (kind r : ℕ) (next : List ℤ) (put : Wrote (written_for kind (m + k)) new count next r) (is : kind ≡ t (pair i (j + k))) where
      next_few : r < m + k + 1
      next_few = omega (arith, w.few, put.counted, written_once kind (m + k))

      next_rest : w.done ++ written_for kind (m + k) ++ written_along t (m + k + 1 - 1) (along_row i (j + k + 1) (n + 1 - (j + k + 1)))
          ≡ written_along t (number n i (i + 1) - 1) (along_row i (i + 1) (n + 1 - (i + 1)))
      unfolding written_along along_row
      next_rest =
          let a : m + k + 1 - 1 ≡ m + k = omega arith in
          let b : suc (m - 1 + k) ≡ m + k = omega (arith, w.few) in
          let c : j + k + 1 ≡ suc (j + k) = omega arith in
          let d : n + 1 - j ≡ k + suc (n + 1 - suc (j + k)) = omega (arith, column_in_lem) in
          let here = rw (← d, b, ← is) at (along_skips t i j (m - 1) k (suc (n + 1 - suc (j + k))) skipped) in
          rw (a, c)
          (append_assoc w.done (written_for kind (m + k)) (written_along t (m + k) (along_row i (suc (j + k)) (n + 1 - suc (j + k))))
          ∙ ap (λ (l : List ℤ). w.done ++ l) (sym here) ∙ w.rest)

      next_fits : left / 2 ^ k / 2 ^ 1 < 2 ^ (n + 1 - (j + k + 1))
      next_fits = below_of_bits (left / 2 ^ k / 2 ^ 1) (n + 1 - (j + k + 1)) (λ x h. shifted left k x ∙ bits_past left (n + 1 - j) (k + (1 + x)) w.fits (omega (arith, column_in_lem)))

      next_ahead : Ahead t n i (j + k + 1) (left / 2 ^ k / 2 ^ 1)
      next_ahead =
          record {
            has = λ x h d.
                let a : j + k + 1 + x ≡ j + (k + (1 + x)) = omega arith in
                shifted left k x ∙ w.ahead.has (k + (1 + x)) (omega arith) (rw a at d);
          }

      pub along_turns : Along t n i start old next (left / 2 ^ k / 2 ^ 1) (j + k + 1) (m + k + 1) r
      along_turns =
          record {
            done = w.done ++ written_for kind (m + k);
            wrote = wrote_both w.done (written_for kind (m + k)) old new next start count r w.wrote put (omega (arith, w.wrote.counted, room_left, w.long));
            rest = next_rest;
            low = w.low;
            high = w.high;
            rising = omega (arith, column_after);
            columns = omega (arith, column_in_lem);
            here = omega (arith, number_skips n i j (k + 1) m w.rising w.here);
            few = next_few;
            room = w.room;
            long = wrote_long (written_for kind (m + k)) new next count r put (omega (arith, next_few, number_in, w.room, w.long)) ∙ w.long;
            fits = next_fits;
            ahead = next_ahead;
          }

-- ---- along the rows

-- before row i: what is written and what is still to come is all that is to be written
pub record Rows (t : Pair → ℕ) (n : ℕ) (old new : List ℤ) (i count : ℕ) : Type 0 where
  pub done : List ℤ
  pub wrote : Wrote done old 0 new count
  pub rest : done ++ written_along t (number n i (i + 1) - 1) (from_row i (n - i)) ≡ written_along t 0 (pairs n)
  pub low : 1 ≤ i
  pub end : i ≤ n
  pub few : count < number n i (i + 1)
  pub room : pair_count n ≤ length old
  pub long : length new ≡ length old

pub rows_begin : (t : Pair → ℕ) (n : ℕ) (old : List ℤ) (row column : ℕ) → 1 ≤ row → row < column → column ≤ n → pair_count n ≤ length old → Rows t n old old 1 0
unfolding pairs
rows_begin t n old row column a b c room =
    record {
      done = [];
      wrote = wrote_none old 0;
      rest = rw (number_first n);
      low = omega arith;
      end = omega arith;
      few = rw (number_first n) (omega arith);
      room = room;
      long = refl;
    }

row_number : (n i : ℕ) → 1 ≤ i → i < n → number n (i + 1) (i + 1 + 1) ≡ number n i (i + 1) + (n - i)
row_number n i l h =
    let a : i + 1 ≡ suc i = omega arith in
    let b : suc i + 1 ≡ suc (suc i) = omega arith in
    let c : suc (number n i n) ≡ number n i (suc i) + (n - i) = omega arith in
    rw (a, b) (number_next_row n i l h ∙ c)

next_start : (n i x y m : ℕ) → y ≡ x + (n - i) → m ≡ n + 1 - (i + 1) → 1 ≤ x → y - 1 ≡ x - 1 + m
next_start n i x y m a b l = omega arith

module _ (t : Pair → ℕ) (n : ℕ) (old new : List ℤ) (i count : ℕ) (w : Rows t n old new i count) where
  pub rows_done : n ≤ i → Wrote (written_along t 0 (pairs n)) old 0 new count
  unfolding from_row written_along
  rows_done h =
      let z : n - i ≡ 0 = omega arith in
      rw (sym (append-nil w.done) ∙ (rw z at w.rest)) at w.wrote

  pub room_for : pair_count n ≤ length new
  room_for = rw w.long w.room

  module _ (more : i < n) (next : List ℤ) (r : ℕ)
      (row : Wrote (written_along t (number n i (i + 1) - 1) (along_row i (i + 1) (n + 1 - (i + 1)))) new count next r) where
    most : r ≤ count + (n - i)
    most =
        omega (arith, row.counted, along_most t (number n i (i + 1) - 1) (along_row i (i + 1) (n + 1 - (i + 1))), along_row_length i (i + 1) (n + 1 - (i + 1)))

    fitting : r ≤ length new
    fitting = omega (arith, most, w.few, number_high n i n w.low more (omega arith), w.room, w.long)

    later : w.done ++ written_along t (number n i (i + 1) - 1) (along_row i (i + 1) (n + 1 - (i + 1))) ++ written_along t (number n (i + 1) (i + 1 + 1) - 1) (from_row (i + 1) (n - (i + 1)))
        ≡ written_along t 0 (pairs n)
    later =
        rw (next_start n i (number n i (i + 1)) (number n (i + 1) (i + 1 + 1)) (length (along_row i (i + 1) (n + 1 - (i + 1)))) (row_number n i w.low more)
        (along_row_length i (i + 1) (n + 1 - (i + 1))) (number_low n i (i + 1) (omega arith)))
        (append_assoc w.done (written_along t (number n i (i + 1) - 1) (along_row i (i + 1) (n + 1 - (i + 1)))) _
        ∙ ap (λ (l : List ℤ). w.done ++ l)
        (sym (along_both t (number n i (i + 1) - 1) (along_row i (i + 1) (n + 1 - (i + 1))) (from_row (i + 1) (n - (i + 1))))
        ∙ ap (written_along t (number n i (i + 1) - 1)) (sym (row_and_rest t n i more)))
        ∙ w.rest)

    pub rows_turn : Rows t n old next (i + 1) r
    rows_turn =
        record {
          done = w.done ++ written_along t (number n i (i + 1) - 1) (along_row i (i + 1) (n + 1 - (i + 1)));
          wrote = wrote_both w.done (written_along t (number n i (i + 1) - 1) (along_row i (i + 1) (n + 1 - (i + 1)))) old new next 0 count r w.wrote row (omega arith);
          rest = later;
          low = omega arith;
          end = omega arith;
          few = omega (arith, most, row_number n i w.low more, w.few);
          room = w.room;
          long = wrote_long (written_along t (number n i (i + 1) - 1) (along_row i (i + 1) (n + 1 - (i + 1)))) new next count r row fitting ∙ w.long;
        }
