-- A list that holds f 1, .., f n and then zeros.
use Prim.Native.Nat.{ℕ, zero, suc, ◌+◌, ◌-◌, ◌≤◌, ◌<◌}
use mathlib.Core.Path.{◌≡◌, refl, sym, ap, ◌∙◌}
use mathlib.Core.List.{List, ◌++◌}
use native.Mathlib.Omega.{arith}
use lib.ListN.{length, get_or, replicate, length-append, length-replicate, get_or-append}
use lib.Seq.{get_or-append-add, ext_get_or}
use Rattle.laws.specs.Compared.{by_below}
use Rattle.laws.specs.UpTo.{list_up_to}
use Rattle.laws.specs.UpToLaws.{list_length, list_at, list_same}
use Rattle.words.specs.Placed.{row, placed}

pub zeros : (n k : ℕ) → get_or {A = ℕ} (replicate n 0) k 0 ≡ 0
zeros zero k = refl
zeros (suc n) zero = refl
zeros (suc n) (suc k) = zeros n k

-- 32 numbers in all
pub placed_length : (f : ℕ → ℕ) (n : ℕ) → n ≤ 32 → length (placed f n) ≡ 32
unfolding placed
placed_length f n h =
    length-append (list_up_to f n) (replicate (32 - n) 0) ∙ omega (arith, list_length f n, length-replicate {A = ℕ} (32 - n) 0)

-- place i holds f i
pub placed_at : (f : ℕ → ℕ) (n i : ℕ) → 1 ≤ i → i ≤ n → row (placed f n) i ≡ f i
unfolding placed
placed_at f n i l h =
    let long : length (list_up_to f n) ≡ n = list_length f n in
    get_or-append (list_up_to f n) (replicate (32 - n) 0) 0 (i - 1) (omega arith) ∙ list_at f n i 0 l h

-- a place after n holds zero
pub placed_past : (f : ℕ → ℕ) (n i : ℕ) → n < i → row (placed f n) i ≡ 0
unfolding placed
placed_past f n i h =
    let long : length (list_up_to f n) ≡ n = list_length f n in
    let place : i - 1 ≡ length (list_up_to f n) + (i - 1 - n) = omega arith in
    ap (λ (x : ℕ). get_or (placed f n) x 0) place
    ∙ get_or-append-add (list_up_to f n) (replicate (32 - n) 0) (i - 1 - n) 0 ∙ zeros (32 - n) (i - 1 - n)

-- functions that agree on 1..n
pub placed_same : (f g : ℕ → ℕ) (n : ℕ) → ((i : ℕ) → 1 ≤ i → i ≤ n → f i ≡ g i) → placed f n ≡ placed g n
unfolding placed
placed_same f g n e = ap (λ (x : List ℕ). x ++ replicate (32 - n) 0) (list_same f g n e)

-- two lists of 32 numbers are equal where each place holds the same
pub same_places : (p q : List ℕ) → length p ≡ 32 → length q ≡ 32 → ((i : ℕ) → 1 ≤ i → row p i ≡ row q i) → p ≡ q
same_places p q lp lq e =
    ext_get_or 0 p q (lp ∙ sym lq) (λ k l. let place : suc k - 1 ≡ k = omega arith in rw place at (e (suc k) (omega arith)))

-- 32 numbers with zeros after place n are placed
pub placed_of : (f : ℕ → ℕ) (n : ℕ) (p : List ℕ) → n ≤ 32 → length p ≡ 32 → ((i : ℕ) → 1 ≤ i → i ≤ n → f i ≡ row p i)
    → ((i : ℕ) → n < i → row p i ≡ 0) → placed f n ≡ p
placed_of f n p h long e past =
    same_places (placed f n) p (placed_length f n h) long
    (λ i l. by_below n i (λ (m : n < i). placed_past f n i m ∙ sym (past i m)) (λ (m : i ≤ n). placed_at f n i l m ∙ e i l m))
