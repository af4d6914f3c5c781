-- Masks: a number as the set of those v in 1..n whose bit, bit v - 1, is 1.
use Rattle.std.specs.Prelude.{ℕ, zero, suc, ◌+◌, ◌-◌, ◌*◌, ◌/◌, ◌%◌, ◌^◌, ◌≤◌, ◌<◌, ◌≡◌, refl, ◌≢◌, Bool, true, false, List, [], ◌∷◌, eqb}
use Rattle.std.proofs.Common.{sym, ap, ◌∙◌, pow-suc, arith, pow_mono, eq-eqb, ne_eqb}
use Rattle.std.specs.Int.Bits.{bit_and, and_step}
use Rattle.std.proofs.lemmas.Nat.{and_le_l}
use Rattle.std.specs.Int.Count.{count_trailing_zeros, under}
use Rattle.laws.specs.Compared.{by_below}
use Rattle.laws.specs.Bit.{bit, with_bit}
use Rattle.laws.specs.BitLaws.{bit_lowest, bit_of_zero, bit_of_half, bits_past, bit_in, with_bit_same, with_bit_other, with_bit_below}
use Rattle.laws.specs.Chosen.{chosen_up_to, chosen_none, chosen_first}

-- the mask m marks v
unfoldable pub marked : ℕ → ℕ → Bool
marked m v = eqb (bit m (v - 1)) 1

-- those of 1..n that m marks, by rising number
unfoldable pub members : ℕ → ℕ → List ℕ
members m n = chosen_up_to (marked m) n

-- ---- a bit taken away or added

-- a mask less one of its bits is the mask with that bit made 0
pub taken : (m k : ℕ) → bit m k ≡ 1 → with_bit m k 0 ≡ m - 2 ^ k
unfolding with_bit
taken m k e = rw e (omega arith)

-- a mask and a bit that it lacks is the mask with that bit made 1
pub added : (m k : ℕ) → bit m k ≡ 0 → with_bit m k 1 ≡ m + 2 ^ k
unfolding with_bit
added m k e = rw e (omega arith)

-- the bit added is there
pub added_same : (m k : ℕ) → bit m k ≡ 0 → bit (m + 2 ^ k) k ≡ 1
added_same m k e = rw (added m k e) at (with_bit_same m k 1 (omega arith))

-- the others are as they were
pub added_other : (m k j : ℕ) → bit m k ≡ 0 → j ≢ k → bit (m + 2 ^ k) j ≡ bit m j
added_other m k j e d = rw (added m k e) at (with_bit_other m k 1 j (omega arith) d)

-- a mask of n bits with one of these added is one
pub added_below : (m k n : ℕ) → bit m k ≡ 0 → m < 2 ^ n → k < n → m + 2 ^ k < 2 ^ n
added_below m k n e h l = rw (added m k e) at (with_bit_below m k 1 n h l (omega arith))

-- ---- a mask without another

-- a bit of a without b is that of a, less that of b
pub bit_of_without : (a b k : ℕ) → bit (a - bit_and a b) k ≡ bit a k - bit b k
bit_of_without a b zero =
    let s = and_step a b in
    let l = and_le_l (a / 2) (b / 2) in
    let low : (a - bit_and a b) % 2 ≡ a % 2 - b % 2 = omega (arith, s, l) in
    bit_lowest (a - bit_and a b) ∙ low ∙ rw (bit_lowest a, bit_lowest b)
bit_of_without a b (suc k) =
    let s = and_step a b in
    let l = and_le_l (a / 2) (b / 2) in
    let half : (a - bit_and a b) / 2 ≡ a / 2 - bit_and (a / 2) (b / 2) = omega (arith, s, l) in
    bit_of_half (a - bit_and a b) k ∙ ap (λ (x : ℕ). bit x k) half ∙ bit_of_without (a / 2) (b / 2) k
    ∙ rw (bit_of_half a k, bit_of_half b k)

-- a bit that b lacks stays
pub without_lacks : (a b k : ℕ) → bit b k ≡ 0 → bit (a - bit_and a b) k ≡ bit a k
without_lacks a b k e = omega (arith, bit_of_without a b k)

-- one that b has goes
pub without_has : (a b k : ℕ) → bit b k ≡ 1 → bit (a - bit_and a b) k ≡ 0
without_has a b k e = omega (arith, bit_of_without a b k)

-- ---- the members

-- v is marked where its bit is 1
pub is_marked : (m v : ℕ) → bit m (v - 1) ≡ 1 → marked m v ≡ true
unfolding marked
is_marked m v e = eq-eqb (bit m (v - 1)) 1 e

-- and not where it is 0
pub not_marked : (m v : ℕ) → bit m (v - 1) ≡ 0 → marked m v ≡ false
unfolding marked
not_marked m v e = ne_eqb (bit m (v - 1)) 1 (λ d. omega arith)

-- masks with the same bit mark v alike
pub marked_same : (a b v : ℕ) → bit a (v - 1) ≡ bit b (v - 1) → marked a v ≡ marked b v
unfolding marked
marked_same a b v e = ap (λ (x : ℕ). eqb x 1) e

-- nothing is in the empty mask
pub no_members : (n : ℕ) → members 0 n ≡ []
unfolding members
no_members n = chosen_none (marked 0) n (λ v l u. not_marked 0 v (bit_of_zero (v - 1)))

-- a mask that is not 0 is more
pub not_empty : (m : ℕ) → m ≢ 0 → 0 < m
not_empty m d = omega arith

-- ---- the lowest member

-- t is the place of the lowest set bit of m
record Lowest (m t : ℕ) : Type 0 where
  set : bit m t ≡ 1
  least : (j : ℕ) → j < t → bit m j ≡ 0

-- the trailing zeros of k digits, one of them set, are its place
lowest : (k m : ℕ) → m < 2 ^ k → 0 < m → Lowest m (count_trailing_zeros k m)
unfolding count_trailing_zeros
lowest zero m h p = absurd (omega arith)
lowest (suc k) m h p = go (m % 2) refl (λ q. lowest k (m / 2) (omega (arith, pow-suc 2 k)) q)
  where
    go : (d : ℕ) → m % 2 ≡ d → (0 < m / 2 → Lowest (m / 2) (count_trailing_zeros k (m / 2))) → Lowest m (under d (count_trailing_zeros k (m / 2)))
    go zero e rest =
        let r = rest (omega arith) in
        record { set = bit_of_half m (count_trailing_zeros k (m / 2)) ∙ r.set; least = least r }
      where
        least : Lowest (m / 2) (count_trailing_zeros k (m / 2)) → (j : ℕ) → j < suc (count_trailing_zeros k (m / 2)) → bit m j ≡ 0
        least r zero l = bit_lowest m ∙ e
        least r (suc j) l = bit_of_half m j ∙ r.least j (omega arith)
    go (suc zero) e rest = record { set = bit_lowest m ∙ e; least = λ j l. absurd (omega arith) }
    go (suc (suc d)) e rest = absurd (omega arith)

-- t is what a count of the trailing zeros of 32 digits gives
module _ (m n t : ℕ) (count : t ≡ count_trailing_zeros 32 m) (fits : m < 2 ^ n) (small : n ≤ 32) (some : 0 < m) where
  is_lowest : Lowest m t
  is_lowest = rw count (lowest 32 m (omega (arith, pow_mono small)) some)

  -- the lowest bit is set
  pub lowest_set : bit m t ≡ 1
  lowest_set = is_lowest.set

  -- it is one of the n bits
  pub lowest_below : t < n
  lowest_below = by_below t n (λ l. l) (λ l. absurd (omega (arith, lowest_set, bits_past m n t fits l)))

  -- it can be taken away
  pub lowest_within : 2 ^ t ≤ m
  lowest_within = omega (arith, bit_in m t, ap (λ (x : ℕ). x * 2 ^ t) lowest_set)

-- the rest of a mask of n bits is one
pub rest_below : (m n t r : ℕ) → r ≡ m - 2 ^ t → m < 2 ^ n → r < 2 ^ n
rest_below m n t r e h = omega arith

-- the members are the lowest and those of the rest
pub lowest_first : (m n t r : ℕ) → t ≡ count_trailing_zeros 32 m → r ≡ m - 2 ^ t → m < 2 ^ n → n ≤ 32 → 0 < m → members m n ≡ suc t ∷ members r n
unfolding members
lowest_first m n t r count e fits small some =
    chosen_first (marked m) (marked r) n (suc t) (omega arith) (lowest_below m n t count fits small some)
    (is_marked m (suc t) (rw place low.set))
    (λ w l u. not_marked m w (low.least (w - 1) (omega arith)))
    (not_marked r (suc t) (rw (place, rest) (with_bit_same m t 0 (omega arith))))
    (λ w l u d. marked_same m r w (rw rest (sym (with_bit_other m t 0 (w - 1) (omega arith) (λ q. d (omega arith))))))
  where
    place : suc t - 1 ≡ t
    place = omega arith

    low : Lowest m t
    low = is_lowest m n t count fits small some

    rest : r ≡ with_bit m t 0
    rest = e ∙ sym (taken m t low.set)
