-- The code of tables.
use Rattle.std.proofs.Common.{ℕ, Bool, true, false, suc, ◌+◌, ◌-◌, ◌*◌, ◌%◌, ◌≤◌, ◌<◌, ◌≡◌, List, ◌==◌, refl, not, add-one, arith, length, take, drop, [], ◌∷◌, length-drop, drop-drop, Result, Ok, IsErr, inl, inr}
use lib.Dec.{eqb}
use Rattle.std.specs.List.{position, position_or_len}
use Rattle.std.specs.Option.{unwrap_or}
use Rattle.std.proofs.lemmas.List.Recursion.{is_position_or_len}
use Rattle.std.proofs.lemmas.List.Sums.{prefix_len-le-length}
use Rattle.std.proofs.lemmas.Grind.{common_steps}
use Rattle.laws.specs.Test.{pick}
use Rattle.tables.specs.Table.{row_length, rows, onto_row, EachRowGives, digit_at, hex_from}

-- a row goes up to the first line's end, or is the whole
pub row_is : (s : List ℕ) → row_length s ≡ unwrap_or (position (λ b. b == 10) s) (length s)
unfolding row_length pick
row_is s =
    let e : row_length s ≡ position_or_len (λ b. b == 10) s = is_position_or_len row_length (λ b. b == 10) refl (λ b bs. grind (arith, common_steps)) s in
    let l : position_or_len (λ b. b == 10) s ≤ length s = prefix_len-le-length (λ b. not (b == 10)) s in
    grind (arith, common_steps)

-- ---- the rows

-- with no line's end there is no row
no_rows : (s : List ℕ) → length s ≤ row_length s → rows s ≡ []
unfolding rows row_length onto_row pick
no_rows [] h = refl
no_rows (b ∷ bs) h = go (eqb b 10) h (no_rows bs)
  where
    go : (t : Bool) → suc (length bs) ≤ pick t 0 (suc (row_length bs)) → (length bs ≤ row_length bs → rows bs ≡ []) → pick t ([] ∷ rows bs) (onto_row b (rows bs)) ≡ []
    go true h e = absurd (omega arith)
    go false h e = rw (e (omega arith))

-- else there is a first one, and the others
more_rows : (s : List ℕ) → row_length s < length s → rows s ≡ take (row_length s) s ∷ rows (drop (row_length s + 1) s)
unfolding rows row_length onto_row pick
more_rows [] h = absurd (omega arith)
more_rows (b ∷ bs) h = go (eqb b 10) _ refl h (more_rows bs)
  where
    go : (t : Bool) (n : ℕ) → n ≡ pick t 0 (suc (row_length bs)) → n < suc (length bs) → (row_length bs < length bs → rows bs ≡ take (row_length bs) bs ∷ rows (drop (row_length bs + 1) bs)) → pick t ([] ∷ rows bs) (onto_row b (rows bs)) ≡ take n (b ∷ bs) ∷ rows (drop (n + 1) (b ∷ bs))
    go true n q h e = rw q
    go false n q h e = rw (q, e (omega arith), add-one, add-one)

module _ {E : Type 0} (Gives : List ℕ → Result (Unit {0}) E → Type 0) (s : List ℕ) where
  -- what the rows from a place on give is what the rows of the table give
  pub record RowsLeft (at : ℕ) : Type 0 where
    pub left : (r : Result (Unit {0}) E) → EachRowGives Gives (rows (drop at s)) r → EachRowGives Gives (rows s) r

  module _ (at : ℕ) (h : RowsLeft at) where
    -- no row is left
    pub rows_end : length s ≤ at + row_length (drop at s) → EachRowGives Gives (rows s) (Ok tt)
    rows_end l = h.left (Ok tt) (rw (no_rows (drop at s) (omega (arith, length-drop at s))))

    module _ (end : ℕ) (e : end ≡ at + row_length (drop at s)) (l : end < length s) (r : Result (Unit {0}) E) (gives : Gives (take (end - at) (drop at s)) r) where
      -- the row there, and the others
      row_there : rows (drop at s) ≡ take (end - at) (drop at s) ∷ rows (drop (end + 1) s)
      row_there =
          let n : row_length (drop at s) ≡ end - at = omega arith in
          let m : at + (end - at + 1) ≡ end + 1 = omega arith in
          rw (more_rows (drop at s) (omega (arith, length-drop at s)), drop-drop, n, m)

      -- it was fine
      pub rows_turn : r ≡ Ok tt → RowsLeft (end + 1)
      rows_turn f = record { left = λ q k. h.left q (rw row_there (inl (rw f at gives, k))) }

      -- it gave an error
      pub rows_stop : IsErr r → EachRowGives Gives (rows s) r
      rows_stop f = h.left r (rw row_there (inr (gives, f)))

-- ---- a number in hexadecimal

module _ (s : List ℕ) (column digits i v m : ℕ) (h : hex_from s (column + i) (digits - i) v ≡ m) where
  -- the next one
  pub hex_turns : (d : ℕ) → i < digits → d ≡ digit_at s (column + i)
      → hex_from s (column + (i + 1)) (digits - (i + 1)) (v % 1152921504606846976 * 16 + d % 16) ≡ m
  unfolding hex_from
  hex_turns d l e =
      let a : column + (i + 1) ≡ column + i + 1 = omega arith in
      let b : digits - i ≡ suc (digits - (i + 1)) = omega arith in
      rw (a, e) (rw b at h)

  -- none is left
  pub hex_done : digits ≤ i → v ≡ m
  unfolding hex_from
  hex_done l =
      let b : digits - i ≡ 0 = omega arith in
      rw b at h
