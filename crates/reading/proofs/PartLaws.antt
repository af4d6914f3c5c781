-- What reading finds beside the entries: the order, the block starts, the padding.
use Prim.Native.Nat.{ℕ, ◌+◌, ◌-◌, ◌*◌, ◌/◌, ◌%◌, ◌^◌, ◌≤◌, ◌<◌}
use mathlib.Core.Path.{◌≡◌, sym, ap, ◌∙◌}
use mathlib.Core.List.{List}
use native.Mathlib.Omega.{arith}
use borrow.Author.Tests.{eq-eqb, ne_eqb}
use lib.Dec.{eqb}
use lib.ListN.{get_or}
use Rattle.laws.specs.Compared.{by_same}
use Rattle.laws.specs.TestLaws.{pick_true, pick_false}
use Rattle.laws.specs.Bit.{bit}
use Rattle.laws.specs.UpTo.{word_up_to}
use Rattle.laws.specs.UpToLaws.{word_same}
use Rattle.laws.specs.Loops.{word_turns, word_done}
use Rattle.laws.specs.Num.{num, num_bit}
use Rattle.fields.specs.Bits.{bit_of}
use Rattle.fields.proofs.BitLaws.{bit_small, first_bits, last_bits}
use Rattle.record.specs.Layout.{bit_count, byte_count}
use Rattle.record.specs.Reading.{order_in, start_in, starts_in, pad_in}
use Rattle.record.proofs.StartLaws.{start_first, start_later}
use Rattle.reading.specs.Lines.{start_by}

-- ---- the order

pub order_is : (s : List ℕ) (x : ℕ) → x ≡ get_or s 0 0 → x < 256 → x / 4 ≡ order_in (bit_of s)
unfolding order_in
order_is s x is_x h = sym (first_bits s 0 6 x (omega arith) is_x h)

-- ---- block starts

pub start_one : (x n v : ℕ) → v ≡ 1 → 1 ≡ start_by x n v
unfolding start_by
start_one x n v e = sym (pick_true (eqb v 1) 1 (bit x (n - v)) (eq-eqb v 1 e))

pub start_other : (x n v : ℕ) → (v ≡ 1 → ⊥) → x / 2 ^ (n - v) % 2 ≡ start_by x n v
unfolding start_by
start_other x n v d = sym (pick_false (eqb v 1) 1 (bit x (n - v)) (ne_eqb v 1 d))

-- the bits of the vertices from 2 on give what the record says
start_is : (s : List ℕ) (n x v : ℕ) → x ≡ num (bit_of s) 6 (n - 1) → 1 ≤ v → v ≤ n → start_by x n v ≡ start_in (bit_of s) v
start_is s n x v is_x low high =
    by_same v 1 (λ e. sym (start_one x n v e) ∙ start_first (bit_of s) v e)
    (λ d. let k : n - v ≡ n - 1 - 1 - (v - 2) = omega arith in
    sym (start_other x n v d)
    ∙ start_later (bit_of s) v (x / 2 ^ (n - v) % 2) d
    (rw (is_x, k) (num_bit (bit_of s) (bit_small s) 6 (n - 1) (v - 2) (omega arith))))

pub start_more : (x n v w b r : ℕ) → w ≡ word_up_to (start_by x n) v → b ≡ start_by x n (v + 1) → r ≡ b * 2 ^ v
    → w + r ≡ word_up_to (start_by x n) (v + 1)
start_more x n v w b r is_w is_b is_r = word_turns (start_by x n) v w r is_w (is_r ∙ ap (λ (y : ℕ). y * 2 ^ v) is_b)

pub starts_done : (s : List ℕ) (n x v w : ℕ) → x ≡ num (bit_of s) 6 (n - 1) → w ≡ word_up_to (start_by x n) v → v ≤ n
    → n ≤ v → w ≡ starts_in (bit_of s) n
unfolding starts_in
starts_done s n x v w is_x is_w l h =
    word_done (start_by x n) v n w is_w l h ∙ word_same (start_by x n) (start_in (bit_of s)) n (λ k low high. start_is s n x k is_x low high)

-- ---- the padding

-- there is a last byte
pub some_bytes : (n b : ℕ) → b ≡ byte_count n → 1 ≤ b
unfolding byte_count bit_count
some_bytes n b e = omega arith

-- fewer than 8 bits are left of it
pub pad_room : (n u b : ℕ) → u ≡ bit_count n → b ≡ byte_count n → u ≤ 8 * b
unfolding byte_count
pad_room n u b e d = omega arith

pub pad_short : (n u b : ℕ) → u ≡ bit_count n → b ≡ byte_count n → 8 * b - u ≤ 8
unfolding byte_count
pad_short n u b e d = omega arith

pub pad_within : (n u b : ℕ) → u ≡ bit_count n → b ≡ byte_count n → 8 * b - u < 64
pad_within n u b e d = omega (arith, pad_short n u b e d)

-- they are the padding
pub pad_is : (s : List ℕ) (n u b x p : ℕ) → u ≡ bit_count n → b ≡ byte_count n → x ≡ get_or s (b - 1) 0
    → p ≡ 2 ^ (8 * b - u) → x % p ≡ pad_in (bit_of s) n
unfolding pad_in
pad_is s n u b x p e d is_x is_p =
    let l : 1 ≤ b = some_bytes n b d in
    let room : u ≤ 8 * b = pad_room n u b e d in
    rw (← e, ← d, is_p) (sym (last_bits s (b - 1) u (8 * b - u) x (omega arith) (pad_short n u b e d) is_x))
