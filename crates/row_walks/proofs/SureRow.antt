-- A row without unknowns: it is walked by its own words.
use Prim.Native.Nat.{ℕ, ◌+◌, ◌-◌, ◌/◌, ◌^◌}
use mathlib.Core.Path.{◌≡◌, sym, ap, ap₂, ◌∙◌}
use mathlib.Core.Bool.{not}
use mathlib.Core.List.{List}
use lib.Bits.{bit_or}
use Rattle.laws.specs.Bit.{bit}
use Rattle.laws.specs.BitLaws.{bit_of_zero}
use Rattle.words.specs.Placed.{row}
use Rattle.rows.proofs.Standing.{or_none}
use Rattle.arrangements.specs.Arrangement.{at}
use Rattle.pairs.specs.Pairs.{pair, along_row}
use Rattle.pairs.proofs.PairLaws.{along_given}
use Rattle.plain.specs.Plain.{same_pair, pair_of_two}
use Rattle.plain.specs.Before.{row_before}
use Rattle.turns.specs.Turns.{turn_by, turn_of, turn_at, walk_code}
use Rattle.row_walks.specs.RowWords.{turn_with}
use Rattle.turns.proofs.CodeTurns.{count_known, walk_alike}
use Rattle.row_walks.proofs.AlikeRows.{bare_goes_on}

pub sure_row : (e w p q : List ℕ) (n i u ones doubts marks hidden r : ℕ) → u ≡ at p i → ones ≡ row e i → doubts ≡ row w i → marks ≡ row e u → hidden ≡ row w u → bit_or doubts hidden ≡ 0
    → r ≡ walk_code (turn_with ones marks p) (along_row i (i + 1) (n + 1 - (i + 1))) → r ≡ walk_code (turn_at row_before e w p q) (along_row i (i + 1) (n + 1 - (i + 1)))
unfolding turn_with turn_at turn_of
sure_row e w p q n i u ones doubts marks hidden r pu po pd pm ph none z =
    let gone = or_none doubts hidden none in
    z
    ∙ walk_alike (turn_with ones marks p) (turn_at row_before e w p q) (along_row i (i + 1) (n + 1 - (i + 1)))
    (λ k m.
    let g = along_given i (i + 1) (n + 1 - (i + 1)) k m in
    let a : bit (row w i) (k.column - 1) ≡ 0 = rw (sym pd, gone.0) (bit_of_zero (k.column - 1)) in
    let b : bit (row w (at p i)) (at p k.column - 1) ≡ 0 = rw (sym pu, sym ph, gone.1) (bit_of_zero (at p k.column - 1)) in
    rw g.same_row
    (ap₂ (λ (x y : ℕ). turn_by x y (same_pair (pair_of_two (at p i) (at p k.column)) (pair i k.column)))
    (ap (λ (o : ℕ). bit o (k.column - 1)) po ∙ count_known (bit (row e i) (k.column - 1)) (bit (row w i) (k.column - 1)) (row_before (pair_of_two (at q i) (at q k.column)) (pair i k.column)) a)
    (ap (λ (o : ℕ). bit o (at p k.column - 1)) (pm ∙ ap (row e) pu)
    ∙ count_known (bit (row e (at p i)) (at p k.column - 1)) (bit (row w (at p i)) (at p k.column - 1)) (not (row_before (pair_of_two (at p i) (at p k.column)) (pair i k.column))) b)))

-- row 2 without unknowns, with no edge after its place and no mark
pub second_bare : (e w p q : List ℕ) (n u ones doubts marks hidden : ℕ) → u ≡ at p 2 → ones ≡ row e 2 → doubts ≡ row w 2 → marks ≡ row e u → hidden ≡ row w u → bit_or doubts hidden ≡ 0
    → bit_or (ones / 2 ^ 2) marks ≡ 0 → 0 ≡ walk_code (turn_at row_before e w p q) (along_row 2 3 (n + 1 - 3))
second_bare e w p q n u ones doubts marks hidden pu po pd pm ph none bare = sure_row e w p q n 2 u ones doubts marks hidden 0 pu po pd pm ph none (bare_goes_on p n 2 ones marks bare)

-- and the walk along its words
pub second_sure : (e w p q : List ℕ) (n u ones doubts marks hidden r : ℕ) → u ≡ at p 2 → ones ≡ row e 2 → doubts ≡ row w 2 → marks ≡ row e u → hidden ≡ row w u → bit_or doubts hidden ≡ 0
    → r ≡ walk_code (turn_with ones marks p) (along_row 2 3 (n + 1 - 3)) → r ≡ walk_code (turn_at row_before e w p q) (along_row 2 3 (n + 1 - 3))
second_sure e w p q n u ones doubts marks hidden r pu po pd pm ph none z = sure_row e w p q n 2 u ones doubts marks hidden r pu po pd pm ph none z
