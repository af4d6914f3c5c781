-- Entries that are not refused, many at a time.
use Prim.Native.Nat.{ℕ, suc, ◌+◌, ◌-◌, ◌*◌, ◌/◌, ◌≤◌, ◌<◌, min}
use mathlib.Core.Path.{◌≡◌, refl, sym, ap, ◌∙◌}
use mathlib.Core.Bool.{Bool, true, false}
use mathlib.Core.List.{List}
use native.Mathlib.Numerals.{add-one}
use native.Mathlib.Omega.{arith}
use borrow.Author.Tests.{eq-eqb, ne_eqb, eqb-true}
use lib.Bits.{bit_and}
use lib.Dec.{eqb}
use Rattle.laws.specs.Compared.{by_below}
use Rattle.laws.specs.Test.{both}
use Rattle.laws.specs.Bit.{bit}
use Rattle.laws.specs.BitLaws.{bit_of_and, bit_of_zero, bit_of_half}
use Rattle.laws.specs.UpTo.{all_up_to}
use Rattle.laws.specs.UpToLaws.{all_at}
use Rattle.laws.specs.Num.{num, num_bit}
use Rattle.laws.specs.First.{first_up_to, first_none, none_first, first_more, first_stop}
use Rattle.refusal.specs.declared.Refusal.TheVariants.{Entry}
use Rattle.pairs.specs.Pairs.{pair_count}
use Rattle.fields.specs.Bits.{bit_of}
use Rattle.fields.proofs.BitLaws.{bit_small}
use Rattle.record.specs.Layout.{entry_place}
use Rattle.record.specs.Reading.{numbered_in, is_refused, refused_in}
use Rattle.numbers.specs.Gathered.{every}
use Rattle.reading.specs.Refused.{NoneUpTo}

-- where the entries of so many pairs after the first m stand
pub place_after : (n m : ℕ) → 1 ≤ n → 5 + n + 2 * m ≡ entry_place n (m + 1)
place_after n m h = omega arith

pub entries_are : (s : List ℕ) (n m count x : ℕ) → 1 ≤ n → x ≡ num (bit_of s) (5 + n + 2 * m) (2 * count)
    → x ≡ num (bit_of s) (entry_place n (m + 1)) (2 * count)
entries_are s n m count x h is_x = is_x ∙ ap (λ (a : ℕ). num (bit_of s) a (2 * count)) (place_after n m h)

-- ---- entries without both bits, by a word

-- the mask of the even bits
abbrev even_bits : ℕ
even_bits = 0x5555555555555555

-- it has them all
abbrev even_at : ℕ → Bool
even_at k = eqb (bit even_bits (2 * (k - 1))) 1

even_bits_lem : (k : ℕ) → k < 32 → bit even_bits (2 * k) ≡ 1
even_bits_lem k l =
    let e : k + 1 - 1 ≡ k = omega arith in
    rw e at (eqb-true (bit even_bits (2 * (k + 1 - 1))) 1 (all_at even_at 32 all (k + 1) (omega arith) (omega arith)))
  where
    all : all_up_to even_at 32 ≡ true
    all = unfold all_up_to both in refl

-- where no entry has both bits the mask of refused columns is empty
paired : (x k : ℕ) → k < 32 → bit_and (bit_and x (x / 2)) even_bits ≡ 0 → min (every 1 x k) (every 0 x k) ≡ 0
unfolding every
paired x k l h =
    let z : bit (bit_and (bit_and x (x / 2)) even_bits) (2 * k) ≡ 0 = ap (λ (y : ℕ). bit y (2 * k)) h ∙ bit_of_zero (2 * k) in
    let a : 2 * k + 1 ≡ suc (2 * k) = omega arith in
    let b : 2 * k + 0 ≡ 2 * k = omega arith in
    rw (a, b, bit_of_half x (2 * k))
    (omega (arith, z, bit_of_and (bit_and x (x / 2)) even_bits (2 * k), bit_of_and x (x / 2) (2 * k), even_bits_lem k l))

-- the entry of pair m + t + 1 by the number of the entries of count pairs after the first m
module _ (s : List ℕ) (n m count x : ℕ) (is_x : x ≡ num (bit_of s) (entry_place n (m + 1)) (2 * count)) where
  bit_of_lem : (t d k : ℕ) → t < count → d ≤ 1 → k + (t + 1) ≡ count → every (1 - d) x k ≡ bit_of s (entry_place n (m + t + 1) + d)
  unfolding every
  bit_of_lem t d k l ld e =
      let place : 2 * k + (1 - d) ≡ 2 * count - 1 - (2 * t + d) = omega arith in
      let on : entry_place n (m + 1) + (2 * t + d) ≡ entry_place n (m + t + 1) + d = omega arith in
      ap (λ (y : ℕ). bit y (2 * k + (1 - d))) is_x ∙ ap (bit (num (bit_of s) (entry_place n (m + 1)) (2 * count))) place
      ∙ num_bit (bit_of s) (bit_small s) (entry_place n (m + 1)) (2 * count) (2 * t + d) (omega arith) ∙ ap (bit_of s) on

  passed : (t : ℕ) → t < count → count ≤ 31 → bit_and (bit_and x (x / 2)) 0x5555555555555555 ≡ 0
      → is_refused (bit_of s) n (m + t + 1) ≡ false
  unfolding is_refused numbered_in num
  passed t l few h =
      let k : ℕ = count - (t + 1) in
      let e : k + (t + 1) ≡ count = omega arith in
      ne_eqb (num (bit_of s) (entry_place n (m + t + 1)) 2) 3
      (λ q. omega (arith, q, paired x k (omega arith) h, bit_of_lem t 0 k l (omega arith) e, bit_of_lem t 1 k l (omega arith) e, bit_small s (entry_place n (m + t + 1)), bit_small s (entry_place n (m + t + 1) + 1)))

-- ---- how far none is refused

pub clear_starts : (f : ℕ → ℕ) (n : ℕ) → NoneUpTo f n 0
unfolding first_up_to
clear_starts f n = record { within = omega arith; none = refl }

-- so many pairs more
pub clear_more : (s : List ℕ) (n c m count x : ℕ) → c ≡ pair_count n → NoneUpTo (bit_of s) n m → count ≡ min (c - m) 31
    → x ≡ num (bit_of s) (entry_place n (m + 1)) (2 * count)
    → bit_and (bit_and x (x / 2)) 0x5555555555555555 ≡ 0 → m < c → NoneUpTo (bit_of s) n (m + count)
clear_more s n c m count x is_c before is_count is_x h l =
    record {
      within = omega arith;
      none =
          none_first (is_refused (bit_of s) n) (m + count)
          (λ k low high. by_below m k
          (λ q. let e : m + (k - (m + 1)) + 1 ≡ k = omega arith in
          rw e at (passed s n m count x is_x (k - (m + 1)) (omega arith) (omega arith) h))
          (λ q. first_none (is_refused (bit_of s) n) m before.none k low q));
    }

-- one pair more, or the first that is refused
pub first_on : (s : List ℕ) (n c m x : ℕ) → c ≡ pair_count n → NoneUpTo (bit_of s) n m
    → x ≡ num (bit_of s) (entry_place n (m + 1)) (2 * 1) → (x ≡ 3 → ⊥) → m < c → NoneUpTo (bit_of s) n (m + 1)
unfolding is_refused numbered_in
first_on s n c m x is_c before is_x d l =
    record {
      within = omega arith;
      none = rw (add-one m) (first_more (is_refused (bit_of s) n) m before.none (rw (add-one m) at (ne_eqb (num (bit_of s) (entry_place n (m + 1)) 2) 3 (λ q. d (is_x ∙ q)))));
    }

-- which is told
pub entry_found : (s : List ℕ) (n c m x : ℕ) → c ≡ pair_count n → NoneUpTo (bit_of s) n m
    → x ≡ num (bit_of s) (entry_place n (m + 1)) (2 * 1) → x ≡ 3 → m < c
    → (eqb (refused_in (bit_of s) n) 0 ≡ false) × (Entry (m + 1) ≡ Entry (refused_in (bit_of s) n))
unfolding refused_in is_refused numbered_in
entry_found s n c m x is_c before is_x q l = (ne_eqb (refused_in (bit_of s) n) 0 (λ z. omega (arith, found, z)), ap (λ (k : ℕ). Entry k) found)
  where
    found : m + 1 ≡ refused_in (bit_of s) n
    found =
        add-one m
        ∙ sym (first_stop (is_refused (bit_of s) n) (pair_count n) m before.none (rw (add-one m) at (eq-eqb (num (bit_of s) (entry_place n (m + 1)) 2) 3 (sym is_x ∙ q))) (omega arith))

pub none_found : (f : ℕ → ℕ) (n c m : ℕ) → c ≡ pair_count n → NoneUpTo f n m → c ≤ m → eqb (refused_in f n) 0 ≡ true
unfolding refused_in
none_found f n c m is_c before h =
    let q : m ≡ pair_count n = omega (arith, before.within) in
    eq-eqb (refused_in f n) 0 (rw q at before.none)
