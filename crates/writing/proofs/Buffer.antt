-- A buffer that is filled from the front.
use Prim.Native.Nat.{ℕ, suc, ◌+◌, ◌≤◌, ◌<◌}
use mathlib.Core.Path.{◌≡◌, refl, sym, ◌∙◌}
use mathlib.Core.List.{List, [], ◌∷◌, ◌++◌, append_assoc}
use native.Mathlib.Numerals.{add-one}
use native.Mathlib.Omega.{arith}
use lib.ListN.{length, get_or, set, drop}
use lib.Seq.{drop-cons, set_at}
use Rattle.laws.specs.UpTo.{list_up_to}
use Rattle.laws.specs.UpToLaws.{list_length}

-- with nothing stored it is as it was
pub filled_starts : (f : ℕ → ℕ) (d : List ℕ) → d ≡ list_up_to f 0 ++ drop 0 d
unfolding list_up_to
filled_starts f d = refl

-- one byte more
pub filled_turns : (f : ℕ → ℕ) (k v size n : ℕ) (out d : List ℕ) → out ≡ list_up_to f k ++ drop k d → v ≡ f (k + 1)
    → k < size → size ≡ n → n ≤ length d
    → set out k v ≡ list_up_to f (k + 1) ++ drop (k + 1) d
unfolding list_up_to
filled_turns f k v size n out d is_out is_v l is_size room =
    rw (is_out, is_v, add-one k, drop-cons d k 0 (omega arith))
    (set_at (list_up_to f k) (get_or d k 0) (drop (suc k) d) (f (suc k)) k (list_length f k)
    ∙ sym (append_assoc (list_up_to f k) (f (suc k) ∷ []) (drop (suc k) d)))
