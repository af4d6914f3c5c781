-- The table of entries that mirrors those above the diagonal.
use Prim.Native.Nat.{ℕ, ◌≤◌, ◌<◌}
use mathlib.Core.Path.{◌≡◌, sym, ◌∙◌}
use native.Mathlib.Omega.{arith}
use lib.Dec.{ltb}
use borrow.Author.Tests.{lt-ltb, le-ltb}
use Rattle.laws.specs.Compared.{by_order}
use Rattle.laws.specs.Test.{pick}
use Rattle.laws.specs.TestLaws.{pick_true, pick_false}
use Rattle.rows.specs.Rows.{mirrored}

-- above the diagonal the entries are those given
pub mirrored_above : (e : ℕ → ℕ → ℕ) (i j : ℕ) → i < j → mirrored e i j ≡ e i j
unfolding mirrored
mirrored_above e i j h = pick_true (ltb i j) (e i j) (pick (ltb j i) (e j i) 0) (lt-ltb i j h)

-- below it they are those of the mirrored pairs
pub mirrored_below : (e : ℕ → ℕ → ℕ) (i j : ℕ) → j < i → mirrored e i j ≡ e j i
unfolding mirrored
mirrored_below e i j h =
    pick_false (ltb i j) (e i j) (pick (ltb j i) (e j i) 0) (le-ltb i j (omega arith)) ∙ pick_true (ltb j i) (e j i) 0 (lt-ltb j i h)

-- on it they are zero
pub mirrored_loop : (e : ℕ → ℕ → ℕ) (i : ℕ) → mirrored e i i ≡ 0
unfolding mirrored
mirrored_loop e i =
    pick_false (ltb i i) (e i i) (pick (ltb i i) (e i i) 0) (le-ltb i i (omega arith)) ∙ pick_false (ltb i i) (e i i) 0 (le-ltb i i (omega arith))

-- the table is symmetric
pub mirrored_symmetric : (e : ℕ → ℕ → ℕ) (i j : ℕ) → mirrored e i j ≡ mirrored e j i
mirrored_symmetric e i j =
    by_order i j (λ (l : i < j). mirrored_above e i j l ∙ sym (mirrored_below e j i l))
    (λ (q : i ≡ j). rw q) (λ (l : j < i). mirrored_below e i j l ∙ sym (mirrored_above e j i l))

-- it keeps a bound on the entries given
pub mirrored_small : (e : ℕ → ℕ → ℕ) (b n : ℕ) → ((i j : ℕ) → 1 ≤ i → i < j → j ≤ n → e i j ≤ b)
    → (i j : ℕ) → 1 ≤ i → i ≤ n → 1 ≤ j → j ≤ n → mirrored e i j ≤ b
mirrored_small e b n small i j li hi lj hj =
    by_order i j (λ (l : i < j). omega (arith, mirrored_above e i j l, small i j li l hj))
    (λ (q : i ≡ j). rw q (omega (arith, mirrored_loop e j))) (λ (l : j < i). omega (arith, mirrored_below e i j l, small j i lj l hi))

-- a symmetric table with zeros on the diagonal mirrors to itself
pub mirrored_itself : (e : ℕ → ℕ → ℕ) (i j : ℕ) → e j i ≡ e i j → e i i ≡ 0 → mirrored e i j ≡ e i j
mirrored_itself e i j symmetric none =
    by_order i j (λ (l : i < j). mirrored_above e i j l)
    (λ (q : i ≡ j). rw (← q) (mirrored_loop e i ∙ sym none)) (λ (l : j < i). mirrored_below e i j l ∙ symmetric)

-- tables that agree above the diagonal mirror alike
pub mirrored_same : (e d : ℕ → ℕ → ℕ) (n : ℕ) → ((i j : ℕ) → 1 ≤ i → i < j → j ≤ n → e i j ≡ d i j)
    → (i j : ℕ) → 1 ≤ i → i ≤ n → 1 ≤ j → j ≤ n → mirrored e i j ≡ mirrored d i j
mirrored_same e d n same i j li hi lj hj =
    by_order i j (λ (l : i < j). mirrored_above e i j l ∙ same i j li l hj ∙ sym (mirrored_above d i j l))
    (λ (q : i ≡ j). rw q (mirrored_loop e j ∙ sym (mirrored_loop d j)))
    (λ (l : j < i). mirrored_below e i j l ∙ same j i lj l hi ∙ sym (mirrored_below d i j l))
