-- What the code builds for composing and inverting, turn by turn.
use Prim.Native.Nat.{ℕ, suc, ◌+◌, ◌-◌, ◌≤◌, ◌<◌}
use native.Mathlib.Omega.{arith}
use native.Mathlib.Numerals.{add-one}
use mathlib.Core.Path.{◌≡◌, refl, sym, ap, ◌∙◌}
use mathlib.Core.Logic.{◌≢◌}
use mathlib.Core.List.{List}
use lib.Dec.{eqb}
use lib.ListN.{length, get_or, set, replicate, length-set}
use lib.Seq.{get_or-set_same, get_or-set_other}
use borrow.Author.Tests.{eq-eqb, ne_eqb}
use Rattle.laws.specs.Compared.{by_below, by_same}
use Rattle.laws.specs.TestLaws.{pick_true, pick_false}
use Rattle.words.specs.Placed.{placed}
use Rattle.words.proofs.Placed.{zeros, placed_length, placed_at, placed_past, same_places, placed_of}
use Rattle.words.proofs.Filled.{placed_done}
use Rattle.arrangements.specs.Arrangement.{at}
use Rattle.composing.specs.Composed.{through, composed, inverse, place_of}

-- ---- where a vertex stands among one place more

place_here : (p : List ℕ) (i v : ℕ) → at p (i + 1) ≡ v → place_of p (i + 1) v ≡ i + 1
unfolding place_of
place_here p i v e =
    rw (add-one i) (pick_true (eqb (at p (suc i)) v) (suc i) (place_of p i v) (eq-eqb (at p (suc i)) v (rw (add-one i) at e)))

place_before_lem : (p : List ℕ) (i v : ℕ) → at p (i + 1) ≢ v → place_of p (i + 1) v ≡ place_of p i v
unfolding place_of
place_before_lem p i v d =
    rw (add-one i) (pick_false (eqb (at p (suc i)) v) (suc i) (place_of p i v) (ne_eqb (at p (suc i)) v (rw (add-one i) at d)))

-- ---- through

pub through_is : (p q : List ℕ) (i v : ℕ) → v ≡ at q i → get_or p (v - 1) 0 ≡ through p q i
through_is p q i v e = ap (λ (k : ℕ). get_or p (k - 1) 0) e

pub composed_done : (p q : List ℕ) (m n : ℕ) (out : List ℕ) → out ≡ placed (through p q) m → m ≤ n → n ≤ m → out ≡ composed n p q
unfolding composed
composed_done p q m n out h a b = placed_done (through p q) m n out h a b

-- ---- an inverse that is filled place by place

-- nothing stands anywhere before the first place
pub inverse_starts : (p : List ℕ) (n : ℕ) → n ≤ 32 → replicate 32 0 ≡ placed (place_of p 0) n
unfolding place_of
inverse_starts p n h = sym (placed_of (place_of p 0) n (replicate 32 0) h refl (λ i l m. sym (zeros 32 (i - 1))) (λ i m. zeros 32 (i - 1)))

-- place i + 1 is put at the vertex that stands there
pub inverse_turns : (p : List ℕ) (i n v : ℕ) (out : List ℕ) → out ≡ placed (place_of p i) n → v ≡ at p (i + 1) → 1 ≤ v → v ≤ n → n ≤ 32
    → set out (v - 1) (i + 1) ≡ placed (place_of p (i + 1)) n
inverse_turns p i n v out h e low high small =
    same_places (set out (v - 1) (i + 1)) (placed (place_of p (i + 1)) n) (length-set out (v - 1) (i + 1) ∙ long) (placed_length (place_of p (i + 1)) n small)
    (λ w l. by_same w v
    (λ (q : w ≡ v).
    rw q (get_or-set_same out (v - 1) (i + 1) 0 (omega (arith, long)) ∙ sym (placed_at (place_of p (i + 1)) n v low high ∙ place_here p i v (sym e))))
    (λ (d : w ≢ v).
    get_or-set_other out (v - 1) (w - 1) (i + 1) 0 (λ q. d (omega arith)) ∙ rw h
    (by_below n w (λ (past : n < w). placed_past (place_of p i) n w past ∙ sym (placed_past (place_of p (i + 1)) n w past))
    (λ (h : w ≤ n). placed_at (place_of p i) n w l h ∙ sym (placed_at (place_of p (i + 1)) n w l h ∙ place_before_lem p i w (λ q. d (sym q ∙ sym e)))))))
  where
    long : length out ≡ 32
    long = rw h (placed_length (place_of p i) n small)

pub inverse_done : (p : List ℕ) (m n : ℕ) (out : List ℕ) → out ≡ placed (place_of p m) n → m ≤ n → n ≤ m → out ≡ inverse n p
unfolding inverse
inverse_done p m n out h a b = let q : m ≡ n = omega arith in h ∙ ap (λ (k : ℕ). placed (place_of p k) n) q
