-- An array that is filled from the front.
use Prim.Native.Nat.{ℕ, suc, ◌+◌, ◌-◌, ◌≤◌, ◌<◌}
use native.Mathlib.Omega.{arith}
use native.Mathlib.Numerals.{add-one}
use mathlib.Core.Path.{◌≡◌, refl, sym, ap, ◌∙◌}
use mathlib.Core.List.{List, [], ◌∷◌, append_assoc}
use lib.ListN.{set, replicate}
use lib.Seq.{set_at}
use Rattle.laws.specs.UpTo.{list_up_to}
use Rattle.laws.specs.UpToLaws.{list_length}
use Rattle.words.specs.Placed.{placed}

pub placed_starts : (f : ℕ → ℕ) → replicate 32 0 ≡ placed f 0
unfolding placed list_up_to
placed_starts f = refl

pub placed_turns : (f : ℕ → ℕ) (i v n : ℕ) (out : List ℕ) → out ≡ placed f i → v ≡ f (i + 1) → i < n → n ≤ 32 → set out i v ≡ placed f (i + 1)
unfolding placed list_up_to
placed_turns f i v n out h e k l =
    let s : 32 - i ≡ suc (32 - suc i) = omega arith in
    rw (h, e, add-one i, s) (set_at (list_up_to f i) 0 (replicate (32 - suc i) 0) (f (suc i)) i (list_length f i) ∙ sym (append_assoc (list_up_to f i) (f (suc i) ∷ []) (replicate (32 - suc i) 0)))

pub placed_done : (f : ℕ → ℕ) (m n : ℕ) (out : List ℕ) → out ≡ placed f m → m ≤ n → n ≤ m → out ≡ placed f n
placed_done f m n out h a b = let q : m ≡ n = omega arith in h ∙ ap (placed f) q
