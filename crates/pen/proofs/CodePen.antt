-- What the code of the pen comes to.
use Prim.Native.Nat.{ℕ, zero, suc, ◌+◌, ◌-◌, ◌*◌, ◌/◌, ◌%◌, ◌^◌, ◌≤◌, ◌<◌}
use native.Mathlib.Nat.{lt_of_lt_of_le, mod-lt, mul-le-mul_right, suc-mul}
use native.Mathlib.Numerals.{add-one}
use native.Mathlib.Omega.{arith}
use mathlib.Core.Path.{◌≡◌, refl, ap, ◌∙◌}
use mathlib.Core.List.{List}
use lib.ListN.{length, set, length-set}
use lib.Pow.{shl_exact, shr_lt, pow-add, pow_mono, pow_pos}
use mir.Syntax.{w64}
use mir.Val.{Fits}
use borrow.Author.Tests.{lt-ltb, le-ltb}
use Rattle.laws.specs.Test.{pick}
use Rattle.pen.specs.declared.Pen.{Pen}
use Rattle.pen.specs.Stored.{stored}
use Rattle.pen.specs.Pushed.{IsPushed}

-- ---- bytes of a word

pub store_starts : (o : List ℕ) (at word : ℕ) → o ≡ stored o at word 0
unfolding stored
store_starts o at word = refl

pub store_turns : (o out : List ℕ) (at word t : ℕ) → out ≡ stored o at word t
    → set out (at + t) (word / 2 ^ (56 - 8 * t) % 256) ≡ stored o at word (t + 1)
unfolding stored
store_turns o out at word t h = rw (add-one t, h)

pub store_done : (o out : List ℕ) (at word t count : ℕ) → out ≡ stored o at word t → t ≤ count → count ≤ t
    → out ≡ stored o at word count
store_done o out at word t count h a b = let q : t ≡ count = omega arith in h ∙ ap (stored o at word) q

-- the buffer stays as long as it was
pub stored_long : (o : List ℕ) (at word t : ℕ) → length (stored o at word t) ≡ length o
unfolding stored
stored_long o at word zero = refl
stored_long o at word (suc t) = length-set (stored o at word t) (at + t) (word / 2 ^ (56 - 8 * t) % 256) ∙ stored_long o at word t

pub stored_kept : (o out : List ℕ) (at word t : ℕ) → out ≡ stored o at word t → length out ≡ length o
stored_kept o out at word t h = ap length h ∙ stored_long o at word t

pub store_room : (o out : List ℕ) (at word t count : ℕ) → out ≡ stored o at word t → t < count → at + count ≤ length o
    → at + t < length out
store_room o out at word t count h l room = rw h (omega (arith, stored_long o at word t))

-- ---- a field

-- bits before a field of w bits
pub put_before : (k h w v : ℕ) → k < 2 ^ h → v < 2 ^ w → k * 2 ^ w + v < 2 ^ (h + w)
put_before k h w v lk lv =
    rw (pow-add 2 h w) (below (2 ^ h) (2 ^ w) k v lk lv)
  where
    below : (a b x y : ℕ) → x < a → y < b → x * b + y < a * b
    below a b x y lx ly =
        let m : suc x * b ≤ a * b = mul-le-mul_right b lx in
        omega (arith, m, suc-mul x b)

module _ (p : Pen) (v w : ℕ) (few : p.have < 64) (small : p.kept < 2 ^ p.have) (short : w ≤ 62) (less : v < 2 ^ w) where
  -- fewer than 64 bits wait on
  module _ (l : p.have + w < 64) where
    kept_moved : p.kept * 2 ^ w % 2 ^ 64 ≡ p.kept * 2 ^ w
    kept_moved = shl_exact p.have w 64 small (omega arith)

    pub kept_fits : Fits w64 (p.kept * 2 ^ w % 2 ^ 64 + v)
    kept_fits = record { fits = rw kept_moved (lt_of_lt_of_le (put_before p.kept p.have w v small less) (pow_mono {j = 64} (omega arith))) }

    -- as many as that hold
    pub kept_below : p.kept * 2 ^ w % 2 ^ 64 + v < 2 ^ (p.have + w)
    kept_below = rw kept_moved (put_before p.kept p.have w v small less)

    pub push_waits : (o : List ℕ) (r : Pen) → r.stored ≡ p.stored → r.have ≡ p.have + w → r.kept ≡ p.kept * 2 ^ w % 2 ^ 64 + v → IsPushed o p v w o r
    unfolding pick
    push_waits o r a b c =
        record {
          is_stored = rw (lt-ltb (p.have + w) 64 l) a;
          is_have = rw (lt-ltb (p.have + w) 64 l) b;
          is_kept = rw (lt-ltb (p.have + w) 64 l) (c ∙ rw kept_moved);
          is_out = rw (lt-ltb (p.have + w) 64 l);
        }

  -- eight bytes are stored
  module _ (l : 64 ≤ p.have + w) where
    word_moved : p.kept * 2 ^ (64 - p.have) % 2 ^ 64 ≡ p.kept * 2 ^ (64 - p.have)
    word_moved = shl_exact p.have (64 - p.have) 64 small (omega arith)

    top_small : v / 2 ^ (p.have + w - 64) < 2 ^ (64 - p.have)
    top_small =
        let e : w ≡ 64 - p.have + (p.have + w - 64) = omega arith in
        shr_lt (64 - p.have) (p.have + w - 64) (rw e at less)

    pub word_fits : Fits w64 (p.kept * 2 ^ (64 - p.have) % 2 ^ 64 + v / 2 ^ (p.have + w - 64))
    word_fits =
        record { fits = rw word_moved (lt_of_lt_of_le (put_before p.kept p.have (64 - p.have) (v / 2 ^ (p.have + w - 64)) small top_small) (pow_mono {j = 64} (omega arith))) }

    pub push_stores : (o o' : List ℕ) (q : ℕ) (r : Pen)
        → o' ≡ stored o p.stored (p.kept * 2 ^ (64 - p.have) % 2 ^ 64 + v / 2 ^ (p.have + w - 64)) 8
        → q ≡ 2 ^ (p.have + w - 64)
        → r.stored ≡ p.stored + 8 → r.have ≡ p.have + w - 64 → r.kept ≡ v % q → IsPushed o p v w o' r
    unfolding pick
    push_stores o o' q r is_o e a b c =
        record {
          is_stored = rw (le-ltb (p.have + w) 64 l) a;
          is_have = rw (le-ltb (p.have + w) 64 l) b;
          is_kept = rw (le-ltb (p.have + w) 64 l) (c ∙ rw e);
          is_out = rw (le-ltb (p.have + w) 64 l) (is_o ∙ ap (λ (x : ℕ). stored o p.stored (x + v / 2 ^ (p.have + w - 64)) 8) word_moved);
        }

-- a rest is below what it is a rest of
pub rest_below : (v k q : ℕ) → q ≡ 2 ^ k → v % q < 2 ^ k
rest_below v k q e = rw e (mod-lt v (pow_pos k))
