-- Five folds gather the even bits of a word.
use Prim.Native.Nat.{ℕ, ◌+◌, ◌-◌, ◌*◌, ◌/◌, ◌%◌, ◌^◌, ◌≤◌, ◌<◌}
use native.Mathlib.Omega.{arith}
use mathlib.Core.Path.{◌≡◌, refl, sym, ap, ◌∙◌}
use mathlib.Core.Bool.{Bool, true}
use lib.Bits.{bit_and, bit_or, and_le_r}
use lib.Dec.{eqb, lit<}
use native.Mathlib.Nat.{lt_of_le_of_lt}
use borrow.Author.Tests.{eqb-true}
use Rattle.laws.specs.Compared.{by_below, by_same}
use Rattle.laws.specs.Test.{both}
use Rattle.laws.specs.UpTo.{all_up_to}
use Rattle.laws.specs.UpToLaws.{all_at}
use Rattle.laws.specs.Bit.{bit}
use Rattle.laws.specs.BitLaws.{bit_of_and, bit_of_or, bits_past}
use Rattle.laws.specs.Num.{num, num_own}
use Rattle.words.proofs.StageLaws.{side, bit_of_cut, bit_of_up_low, bit_of_up, bit_of_down}
use Rattle.numbers.specs.Gathered.{every, fold}

pub fold_is : (s m x : ℕ) → bit_and (bit_or (x * 2 ^ s % 2 ^ 64) (x / 2 ^ (2 * s))) m ≡ fold s m x
unfolding fold
fold_is s m x = refl

fold_below : (s m x : ℕ) → fold s m x ≤ m
unfolding fold
fold_below s m x = and_le_r (bit_or (x * 2 ^ s % 2 ^ 64) (x / 2 ^ (2 * s))) m

-- ---- one fold

-- m marks the groups of 2 s bits that are kept, and s bits further is the other side
record Folds (s m : ℕ) : Type 0 where
  marks : (p : ℕ) → p < 64 → bit m p ≡ 1 - side (2 * s) p
  small : m < 2 ^ 64
  across : (p : ℕ) → side s (s + p) ≡ 1 - side s p
  twice : (p : ℕ) → side s (2 * s + p) ≡ side s p
  first : (a r : ℕ) → r < s → side s (4 * s * a + r) ≡ 0
  kept : (a r : ℕ) → r < 2 * s → side (2 * s) (4 * s * a + r) ≡ 0

-- z has nothing on the other side
abbrev Apart : ℕ → ℕ → Type 0
Apart s z = (p : ℕ) → side s p ≡ 1 → bit z p ≡ 0

module _ (s m z : ℕ) (h : Folds s m) (apart : Apart s z) where
  -- the two words that are joined
  up : (p : ℕ) → p < 64 → side s p ≡ 0 → bit (z * 2 ^ s % 2 ^ 64) p ≡ 0
  up p l e =
      bit_of_cut (z * 2 ^ s) 64 p l
      ∙ by_below p s (λ q. bit_of_up_low z s p q)
      (λ q. let k : p ≡ s + (p - s) = omega arith in
      let t : side s (s + (p - s)) ≡ 0 = ap (side s) (sym k) ∙ e in
      ap (bit (z * 2 ^ s)) k ∙ bit_of_up z s (p - s) ∙ apart (p - s) (omega (arith, t, h.across (p - s))))

  -- a bit on side 0 comes from 2 s bits further
  from_above : (a r : ℕ) → r < s → 4 * s * a + r < 64 → bit (fold s m z) (4 * s * a + r) ≡ bit z (2 * s + (4 * s * a + r))
  unfolding fold
  from_above a r lr l =
      let p : ℕ = 4 * s * a + r in
      bit_of_and (bit_or (z * 2 ^ s % 2 ^ 64) (z / 2 ^ (2 * s))) m p
      ∙ omega (arith, h.marks p l, h.kept a r (omega arith), bit_of_or (z * 2 ^ s % 2 ^ 64) (z / 2 ^ (2 * s)) p, up p l (h.first a r lr), bit_of_down z (2 * s) p)

  -- and one on side 1 from s bits before
  from_below : (a r : ℕ) → r < s → s + (4 * s * a + r) < 64 → bit (fold s m z) (s + (4 * s * a + r)) ≡ bit z (4 * s * a + r)
  unfolding fold
  from_below a r lr l =
      let p : ℕ = s + (4 * s * a + r) in
      let other : side s p ≡ 1 = omega (arith, h.across (4 * s * a + r), h.first a r lr) in
      let e : 4 * s * a + (s + r) ≡ p = omega arith in
      let stays : side (2 * s) p ≡ 0 = ap (side (2 * s)) (sym e) ∙ h.kept a (s + r) (omega arith) in
      let b : bit (z / 2 ^ (2 * s)) p ≡ 0 = bit_of_down z (2 * s) p ∙ apart (2 * s + p) (h.twice p ∙ other) in
      bit_of_and (bit_or (z * 2 ^ s % 2 ^ 64) (z / 2 ^ (2 * s))) m p
      ∙ omega (arith, h.marks p l, stays, bit_of_or (z * 2 ^ s % 2 ^ 64) (z / 2 ^ (2 * s)) p, bit_of_cut (z * 2 ^ s) 64 p l, bit_of_up z s (4 * s * a + r), b)

  -- as one law, b the side that it comes from
  moves : (a b r : ℕ) → b ≤ 1 → r < s → s + (4 * s * a + r) < 64
      → bit (fold s m z) (s * (1 - b) + (4 * s * a + r)) ≡ bit z (2 * s * b + (4 * s * a + r))
  moves a b r lb lr l =
      by_same b 0
      (λ e. let x : s * 1 + (4 * s * a + r) ≡ s + (4 * s * a + r) = omega arith in
      let y : 4 * s * a + r ≡ 2 * s * 0 + (4 * s * a + r) = omega arith in
      rw e (ap (bit (fold s m z)) x ∙ from_below a r lr l ∙ ap (bit z) y))
      (λ d. let e : b ≡ 1 = omega arith in
      let x : s * 0 + (4 * s * a + r) ≡ 4 * s * a + r = omega arith in
      let y : 2 * s + (4 * s * a + r) ≡ 2 * s * 1 + (4 * s * a + r) = omega arith in
      rw e (ap (bit (fold s m z)) x ∙ from_above a r lr (omega arith) ∙ ap (bit z) y))

  -- the same for any two places that are these
  comes : (a b r to from : ℕ) → b ≤ 1 → r < s → s + (4 * s * a + r) < 64 → to ≡ s * (1 - b) + (4 * s * a + r) → 2 * s * b + (4 * s * a + r) ≡ from → bit (fold s m z) to ≡ bit z from
  comes a b r to from lb lr l e f = ap (bit (fold s m z)) e ∙ moves a b r lb lr l ∙ ap (bit z) f

  fold_apart : Apart (2 * s) (fold s m z)
  unfolding fold
  fold_apart p e =
      bit_of_and (bit_or (z * 2 ^ s % 2 ^ 64) (z / 2 ^ (2 * s))) m p
      ∙ by_below p 64 (λ l. omega (arith, h.marks p l, e)) (λ l. omega (arith, bits_past m 64 p h.small l))

-- ---- the masks

abbrev marked : ℕ → ℕ → ℕ → Bool
marked s m p = eqb (bit m (p - 1)) (1 - side (2 * s) (p - 1))

folds : (s m : ℕ) → all_up_to (marked s m) 64 ≡ true → m < 2 ^ 64 → ((p : ℕ) → side s (s + p) ≡ 1 - side s p)
    → ((p : ℕ) → side s (2 * s + p) ≡ side s p)
    → ((a r : ℕ) → r < s → side s (4 * s * a + r) ≡ 0) → ((a r : ℕ) → r < 2 * s → side (2 * s) (4 * s * a + r) ≡ 0) → Folds s m
folds s m t small across twice first kept =
    record {
      marks = λ p l. let e : p + 1 - 1 ≡ p = omega arith in rw e at (eqb-true (bit m (p + 1 - 1)) (1 - side (2 * s) (p + 1 - 1)) (all_at (marked s m) 64 t (p + 1) (omega arith) (omega arith)));
      small = small;
      across = across;
      twice = twice;
      first = first;
      kept = kept;
    }

folds_1 : Folds 1 0x3333333333333333
unfolding all_up_to both
folds_1 = folds 1 0x3333333333333333 refl (lit< tt) (λ p. omega arith) (λ p. omega arith) (λ a r l. omega arith) (λ a r l. omega arith)

folds_2 : Folds 2 0x0f0f0f0f0f0f0f0f
unfolding all_up_to both
folds_2 = folds 2 0x0f0f0f0f0f0f0f0f refl (lit< tt) (λ p. omega arith) (λ p. omega arith) (λ a r l. omega arith) (λ a r l. omega arith)

folds_4 : Folds 4 0x00ff00ff00ff00ff
unfolding all_up_to both
folds_4 = folds 4 0x00ff00ff00ff00ff refl (lit< tt) (λ p. omega arith) (λ p. omega arith) (λ a r l. omega arith) (λ a r l. omega arith)

folds_8 : Folds 8 0x0000ffff0000ffff
unfolding all_up_to both
folds_8 = folds 8 0x0000ffff0000ffff refl (lit< tt) (λ p. omega arith) (λ p. omega arith) (λ a r l. omega arith) (λ a r l. omega arith)

folds_16 : Folds 16 0x00000000ffffffff
unfolding all_up_to both
folds_16 = folds 16 0x00000000ffffffff refl (lit< tt) (λ p. omega arith) (λ p. omega arith) (λ a r l. omega arith) (λ a r l. omega arith)

-- ---- five folds

-- the even bits
abbrev evens : ℕ → ℕ
evens x = bit_and x 0x5555555555555555

abbrev even_marked : ℕ → Bool
even_marked p = eqb (bit 0x5555555555555555 (p - 1)) (1 - side 1 (p - 1))

even_marks : (p : ℕ) → p < 64 → bit 0x5555555555555555 p ≡ 1 - side 1 p
even_marks p l =
    let e : p + 1 - 1 ≡ p = omega arith in
    rw e at (eqb-true (bit 0x5555555555555555 (p + 1 - 1)) (1 - side 1 (p + 1 - 1)) (all_at even_marked 64 all (p + 1) (omega arith) (omega arith)))
  where
    all : all_up_to even_marked 64 ≡ true
    all = unfold all_up_to both in refl

evens_bit : (x k : ℕ) → k < 32 → bit (evens x) (2 * k) ≡ bit x (2 * k)
evens_bit x k l = bit_of_and x 0x5555555555555555 (2 * k) ∙ omega (arith, even_marks (2 * k) (omega arith))

evens_apart : (x : ℕ) → Apart 1 (evens x)
evens_apart x p e =
    bit_of_and x 0x5555555555555555 p
    ∙ by_below p 64 (λ l. omega (arith, even_marks p l, e)) (λ l. omega (arith, bits_past 0x5555555555555555 64 p (lit< tt) l))

-- where the bit of number k stands after the folds by 1, by 2, by 4, by 8 and by 16
module _ (z k : ℕ) (l : k < 32) where
  after_1 : Apart 1 z → bit (fold 1 0x3333333333333333 z) (4 * (k / 2) + (1 - k % 2)) ≡ bit z (2 * k)
  after_1 a =
      let b : k / 1 ≡ 2 * (k / 2) + k / 1 % 2 = omega arith in
      let c : k % 2 ≡ 1 * (k / 1 % 2) + k % 1 = omega arith in
      comes 1 0x3333333333333333 z folds_1 a (k / 2) (k / 1 % 2) (0 - k % 1) _ _
      (omega arith) (omega arith) (omega arith) (omega arith) (omega arith)

  after_2 : Apart 2 z → bit (fold 2 0x0f0f0f0f0f0f0f0f z) (8 * (k / 4) + (3 - k % 4)) ≡ bit z (4 * (k / 2) + (1 - k % 2))
  after_2 a =
      let b : k / 2 ≡ 2 * (k / 4) + k / 2 % 2 = omega arith in
      let c : k % 4 ≡ 2 * (k / 2 % 2) + k % 2 = omega arith in
      comes 2 0x0f0f0f0f0f0f0f0f z folds_2 a (k / 4) (k / 2 % 2) (1 - k % 2) _ _
      (omega arith) (omega arith) (omega arith) (omega arith) (omega arith)

  after_4 : Apart 4 z → bit (fold 4 0x00ff00ff00ff00ff z) (16 * (k / 8) + (7 - k % 8)) ≡ bit z (8 * (k / 4) + (3 - k % 4))
  after_4 a =
      let b : k / 4 ≡ 2 * (k / 8) + k / 4 % 2 = omega arith in
      let c : k % 8 ≡ 4 * (k / 4 % 2) + k % 4 = omega arith in
      comes 4 0x00ff00ff00ff00ff z folds_4 a (k / 8) (k / 4 % 2) (3 - k % 4) _ _
      (omega arith) (omega arith) (omega arith) (omega arith) (omega arith)

  after_8 : Apart 8 z → bit (fold 8 0x0000ffff0000ffff z) (32 * (k / 16) + (15 - k % 16)) ≡ bit z (16 * (k / 8) + (7 - k % 8))
  after_8 a =
      let b : k / 8 ≡ 2 * (k / 16) + k / 8 % 2 = omega arith in
      let c : k % 16 ≡ 8 * (k / 8 % 2) + k % 8 = omega arith in
      comes 8 0x0000ffff0000ffff z folds_8 a (k / 16) (k / 8 % 2) (7 - k % 8) _ _
      (omega arith) (omega arith) (omega arith) (omega arith) (omega arith)

  after_16 : Apart 16 z → bit (fold 16 0x00000000ffffffff z) (31 - k) ≡ bit z (32 * (k / 16) + (15 - k % 16))
  after_16 a =
      let b : k / 16 ≡ 2 * (k / 32) + k / 16 % 2 = omega arith in
      let c : k % 32 ≡ 16 * (k / 16 % 2) + k % 16 = omega arith in
      comes 16 0x00000000ffffffff z folds_16 a (k / 32) (k / 16 % 2) (15 - k % 16) _ _
      (omega arith) (omega arith) (omega arith) (omega arith) (omega arith)

pub gathered_is : (x a b c d r : ℕ) → a ≡ fold 1 0x3333333333333333 (bit_and x 0x5555555555555555)
    → b ≡ fold 2 0x0f0f0f0f0f0f0f0f a → c ≡ fold 4 0x00ff00ff00ff00ff b
    → d ≡ fold 8 0x0000ffff0000ffff c → r ≡ fold 16 0x00000000ffffffff d → r ≡ num (every 0 x) 0 32
unfolding every
gathered_is x a b c d r is_a is_b is_c is_d is_r =
    sym (num_own (every 0 x) 0 32 r below (λ t l. let e : 2 * (0 + t) + 0 ≡ 2 * t = omega arith in rw e (sym (traced t l))))
  where
    apart_1 : Apart 1 (evens x)
    apart_1 = evens_apart x

    apart_2 : Apart 2 a
    apart_2 = rw is_a (fold_apart 1 0x3333333333333333 (evens x) folds_1 apart_1)

    apart_4 : Apart 4 b
    apart_4 = rw is_b (fold_apart 2 0x0f0f0f0f0f0f0f0f a folds_2 apart_2)

    apart_8 : Apart 8 c
    apart_8 = rw is_c (fold_apart 4 0x00ff00ff00ff00ff b folds_4 apart_4)

    apart_16 : Apart 16 d
    apart_16 = rw is_d (fold_apart 8 0x0000ffff0000ffff c folds_8 apart_8)

    traced : (k : ℕ) → k < 32 → bit r (31 - k) ≡ bit x (2 * k)
    traced k l =
        ap (λ (y : ℕ). bit y (31 - k)) is_r ∙ after_16 d k l apart_16
        ∙ ap (λ (y : ℕ). bit y (32 * (k / 16) + (15 - k % 16))) is_d ∙ after_8 c k l apart_8
        ∙ ap (λ (y : ℕ). bit y (16 * (k / 8) + (7 - k % 8))) is_c ∙ after_4 b k l apart_4
        ∙ ap (λ (y : ℕ). bit y (8 * (k / 4) + (3 - k % 4))) is_b ∙ after_2 a k l apart_2
        ∙ ap (λ (y : ℕ). bit y (4 * (k / 2) + (1 - k % 2))) is_a ∙ after_1 (evens x) k l apart_1 ∙ evens_bit x k l

    below : r < 2 ^ 32
    below = rw is_r (lt_of_le_of_lt (fold_below 16 0x00000000ffffffff d) (lit< tt))
