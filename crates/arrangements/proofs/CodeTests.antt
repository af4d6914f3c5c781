-- What the code's tests of arrangements come to, one law for each answer that it gives.
use Prim.Native.Nat.{ℕ, ◌+◌, ◌-◌, ◌/◌, ◌%◌, ◌≤◌, ◌<◌, ◌^◌}
use native.Mathlib.Omega.{arith}
use mathlib.Core.Path.{◌≡◌, refl, sym, ap, ap₂, ◌∙◌}
use mathlib.Core.Bool.{Bool, true, false, not}
use mathlib.Core.List.{List}
use lib.Dec.{leb, eqb}
use lib.ListN.{length}
use borrow.Author.Tests.{eq-eqb, le-leb, lt-leb, leb-true}
use Rattle.laws.specs.Test.{both, pick}
use Rattle.laws.specs.UpTo.{all_up_to, sum_up_to}
use Rattle.laws.specs.TestLaws.{both_first, both_second}
use Rattle.laws.specs.UpToLaws.{all_at}
use Rattle.laws.specs.Loops.{all_done, all_stops, sum_turns}
use Rattle.rows.specs.Rows.{start_at, block_of}
use Rattle.arrangements.specs.Arrangement.{at, differs, is_new, place_fits, is_reordering, stays_in_block, is_permitted}

pub block_turns : (starts i s : ℕ) → s ≡ sum_up_to (start_at starts) i → s + starts / 2 ^ i % 2 ≡ sum_up_to (start_at starts) (i + 1)
block_turns starts i s h =
    let e : i + 1 - 1 ≡ i = omega arith in
    sum_turns (start_at starts) i s (starts / 2 ^ i % 2) h (rw e)

-- ---- arrangements

pub differs_is : (p : List ℕ) (i j x y : ℕ) → x ≡ at p j → y ≡ at p i → not (eqb x y) ≡ differs p i j
differs_is p i j x y a b = ap₂ (λ (m n : ℕ). not (eqb m n)) a b

pub new_done : (p : List ℕ) (i m : ℕ) → all_up_to (differs p i) m ≡ true → m ≤ i - 1 → i - 1 ≤ m → true ≡ is_new p i
unfolding is_new
new_done p i m h a b = all_done (differs p i) m (i - 1) h a b

pub new_stops : (p : List ℕ) (i m : ℕ) (r : Bool) → r ≡ differs p i (m + 1) → r ≡ false → m < i - 1 → false ≡ is_new p i
unfolding is_new
new_stops p i m r e h l = all_stops (differs p i) m (i - 1) r e h l

module _ (n : ℕ) (p : List ℕ) (i v : ℕ) (e : v ≡ at p i) where
  pub place_past : n < i → eqb v 0 ≡ place_fits n p i
  unfolding place_fits pick
  place_past h = rw (lt-leb i n h) (ap (λ (x : ℕ). eqb x 0) e)

  module _ (h : i ≤ n) where
    pub place_zero : v < 1 → false ≡ place_fits n p i
    unfolding place_fits pick both
    place_zero l = rw (le-leb i n h, lt-leb 1 (at p i) (rw e at l))

    pub place_above : 1 ≤ v → n < v → false ≡ place_fits n p i
    unfolding place_fits pick both
    place_above a l = rw (le-leb i n h, le-leb 1 (at p i) (rw e at a), lt-leb (at p i) n (rw e at l))

    pub place_new : (b : Bool) → 1 ≤ v → v ≤ n → b ≡ is_new p i → b ≡ place_fits n p i
    unfolding place_fits pick both
    place_new b a l f = rw (le-leb i n h, le-leb 1 (at p i) (rw e at a), le-leb (at p i) n (rw e at l)) f

pub reordering_done : (n : ℕ) (p : List ℕ) (m : ℕ) → length p ≡ 32 → all_up_to (place_fits n p) m ≡ true → m ≤ 32 → 32 ≤ m → true ≡ is_reordering n p
unfolding is_reordering both
reordering_done n p m long h a b = rw (eq-eqb (length p) 32 long) (all_done (place_fits n p) m 32 h a b)

pub reordering_stops : (n : ℕ) (p : List ℕ) (m : ℕ) (r : Bool) → length p ≡ 32 → r ≡ place_fits n p (m + 1) → r ≡ false → m < 32 → false ≡ is_reordering n p
unfolding is_reordering both
reordering_stops n p m r long e h l = rw (eq-eqb (length p) 32 long) (all_stops (place_fits n p) m 32 r e h l)

-- ---- permitted arrangements, and places

pub stays_is : (starts : ℕ) (p : List ℕ) (i v there here : ℕ) → there ≡ block_of starts v → v ≡ at p i → here ≡ block_of starts i
    → eqb there here ≡ stays_in_block starts p i
unfolding stays_in_block
stays_is starts p i v there here a e b = ap₂ eqb (a ∙ ap (block_of starts) e) b

module _ (n : ℕ) (p : List ℕ) (i : ℕ) (h : is_reordering n p ≡ true) (a : 1 ≤ i) (b : i ≤ n) (l : n ≤ 32) where
  place_holds : both (leb 1 (at p i)) (both (leb (at p i) n) (is_new p i)) ≡ true
  unfolding is_reordering place_fits pick
  place_holds =
      let f : place_fits n p i ≡ true = all_at (place_fits n p) 32 (both_second (eqb (length p) 32) (all_up_to (place_fits n p) 32) h) i a (omega arith) in
      rw (le-leb i n b) at f

  pub vertex_low : (v : ℕ) → v ≡ at p i → 1 ≤ v
  vertex_low v e = rw e (leb-true 1 (at p i) (both_first (leb 1 (at p i)) (both (leb (at p i) n) (is_new p i)) place_holds))

  pub vertex_high : (v : ℕ) → v ≡ at p i → v ≤ n
  vertex_high v e =
      let f : both (leb (at p i) n) (is_new p i) ≡ true = both_second (leb 1 (at p i)) (both (leb (at p i) n) (is_new p i)) place_holds in
      rw e (leb-true (at p i) n (both_first (leb (at p i) n) (is_new p i) f))

pub vertex_in : (n : ℕ) (p : List ℕ) (i : ℕ) → is_reordering n p ≡ true → i < n → n ≤ 32 → at p (i + 1) ≤ 32
vertex_in n p i h a l = omega (arith, vertex_high n p (i + 1) h (omega arith) (omega arith) l (at p (i + 1)) refl)

pub known_reordering : (n : ℕ) (p : List ℕ) (r : Bool) → r ≡ is_reordering n p → r ≡ true → is_reordering n p ≡ true
known_reordering n p r e h = sym e ∙ h

pub permitted_is : (n starts : ℕ) (p : List ℕ) (r b : Bool) → r ≡ is_reordering n p → r ≡ true → b ≡ all_up_to (stays_in_block starts p) n → b ≡ is_permitted n starts p
unfolding is_permitted both
permitted_is n starts p r b e h f = rw (sym e ∙ h) f

pub permitted_not : (n starts : ℕ) (p : List ℕ) (r : Bool) → r ≡ is_reordering n p → r ≡ false → false ≡ is_permitted n starts p
unfolding is_permitted both
permitted_not n starts p r e h = rw (sym e ∙ h)
