-- The literals of some pairs, in words.
use Prim.Native.Nat.{ℕ}
use native.Mathlib.Omega.{arith}
use mathlib.Core.Path.{◌≡◌, refl, sym, ◌∙◌, ap}
use mathlib.Core.Logic.{◌↔◌, ◌⊎◌, inl, inr}
use mathlib.Core.Bool.{Bool, true, false}
use mathlib.Core.List.Memᴰ
use mathlib.Core.List.{List, [], ◌∷◌, Memᴰ}
use lib.Dec.{eqb}
use borrow.Author.Tests.{eqb-true, eqb-false}
use Rattle.laws.specs.Test.{pick}
use Rattle.walk.specs.Clause.{Literal, absent, present, pair_in, FalseIn}
use Rattle.walk.specs.Meeting.{literal_at, literals_of}
use Rattle.walk.proofs.Meeting.{literals_false}

-- a literal is one of js exactly where its pair is in js and it is false in v
pub literals_in_words : {P : Type 0} (v : P → ℕ) (js : List P) (l : Literal P) → Memᴰ l (literals_of v js) ↔ (Memᴰ (pair_in l) js × FalseIn v l)
unfolding literals_of literal_at pick
literals_in_words {P} v js l = (λ m. (in_list js m, literals_false v js l m), λ h. of_list l js h.0 h.1)
  where
    in_list : (js : List P) → Memᴰ l (literals_of v js) → Memᴰ (pair_in l) js
    in_list [] m = elim m [ ]
    in_list (j ∷ js) m = at (eqb (v j) 1) (eqb (v j) 0) m (in_list js)
      where
        side : (x : Literal P) → pair_in x ≡ j → (l ≡ x) ⊎ Memᴰ l (literals_of v js) → (Memᴰ l (literals_of v js) → Memᴰ (pair_in l) js)
            → Memᴰ (pair_in l) (j ∷ js)
        side x p (inl e) go = Memᴰ.head (ap pair_in e ∙ p)
        side x p (inr i) go = Memᴰ.tail (go i)

        at : (o z : Bool) → Memᴰ l (pick o (absent j ∷ literals_of v js) (pick z (present j ∷ literals_of v js) (literals_of v js)))
            → (Memᴰ l (literals_of v js) → Memᴰ (pair_in l) js) → Memᴰ (pair_in l) (j ∷ js)
        at true z m go = side (absent j) refl (Memᴰ.cases_cons m) go
        at false true m go = side (present j) refl (Memᴰ.cases_cons m) go
        at false false m go = Memᴰ.tail (go m)

    of_list : (l : Literal P) (js : List P) → Memᴰ (pair_in l) js → FalseIn v l → Memᴰ l (literals_of v js)
    of_list l [] m f = elim m [ ]
    of_list l (j ∷ js) m f = at l (eqb (v j) 1) (eqb (v j) 0) refl refl f (Memᴰ.cases_cons m) (λ i. of_list l js i f)
      where
        at : (l : Literal P) (o z : Bool) → eqb (v j) 1 ≡ o → eqb (v j) 0 ≡ z → FalseIn v l → (pair_in l ≡ j) ⊎ Memᴰ (pair_in l) js
            → (Memᴰ (pair_in l) js → Memᴰ l (literals_of v js))
            → Memᴰ l (pick o (absent j ∷ literals_of v js) (pick z (present j ∷ literals_of v js) (literals_of v js)))
        at (absent k) true z e d f (inl p) go = Memᴰ.head (ap absent p)
        at (absent k) false z e d f (inl p) go = absurd (eqb-false (v j) 1 e (ap v (sym p) ∙ f))
        at (present k) true z e d f (inl p) go = absurd (omega (arith, eqb-true (v j) 1 e, ap v p))
        at (present k) false true e d f (inl p) go = Memᴰ.head (ap present p)
        at (present k) false false e d f (inl p) go = absurd (eqb-false (v j) 0 d (ap v (sym p) ∙ f))
        at l true z e d f (inr i) go = Memᴰ.tail (go i)
        at l false true e d f (inr i) go = Memᴰ.tail (go i)
        at l false false e d f (inr i) go = go i
