-- Lists of literals: where one splits, and those of the pairs that pass a test.
use Prim.Native.Nat.{ℕ}
use native.Mathlib.Omega.{arith}
use mathlib.Core.Path.{◌≡◌, refl, sym, ◌∙◌, ap}
use mathlib.Core.Bool.{Bool, true, false}
use mathlib.Core.List.Memᴰ
use mathlib.Core.List.{List, [], ◌∷◌, ◌++◌, append_assoc, Memᴰ}
use lib.Dec.{eqb}
use Rattle.laws.specs.Test.{pick}
use Rattle.laws.specs.Each.{Each, each_first, each_rest}
use Rattle.laws.specs.ListLaws.{NoRepeats, mem_split}
use Rattle.walk.specs.Clause.{Literal, absent, present, pair_in}
use Rattle.walk.specs.Meeting.{literal_at, literals_of}
use Rattle.needed.specs.Kept.{those}

-- an element at which a list without repeats splits does not stand after it
pub not_later : {A : Type 0} (xs : List A) (k : A) (ys : List A) → NoRepeats (xs ++ k ∷ ys) → ¬ Memᴰ k ys
unfolding NoRepeats
not_later [] k ys h m = h.0 m
not_later (x ∷ xs) k ys h m = not_later xs k ys h.1 m

-- where j stands after no k, no k stands before j
pub not_earlier : {A : Type 0} (ns : List A) (j k : A) → ((us ys : List A) → ns ≡ us ++ k ∷ ys → ¬ Memᴰ j ys) → (us ys : List A) → ns ≡ us ++ j ∷ ys → ¬ Memᴰ k us
not_earlier {A} ns j k after us ys e m =
    let s = mem_split k us m in
    after s.0 (s.1 ++ j ∷ ys) (e ∙ ap (λ (l : List A). l ++ j ∷ ys) s.2 ∙ append_assoc s.0 (k ∷ s.1) (j ∷ ys)) (Memᴰ.append_right s.1 (Memᴰ.head refl))

-- where the literals of ns split, ns does
pub record SplitAt {P : Type 0} (x : P → ℕ) (ns : List P) (ls : List (Literal P)) (l : Literal P) (rs : List (Literal P)) : Type 0 where
  pub first : List P
  pub last : List P
  pub split : ns ≡ first ++ pair_in l ∷ last
  pub of_first : ls ≡ literals_of x first
  pub of_last : rs ≡ literals_of x last

pub literals_split : {P : Type 0} (x : P → ℕ) (ns : List P) (ls : List (Literal P)) (l : Literal P) (rs : List (Literal P)) → literals_of x ns ≡ ls ++ l ∷ rs → SplitAt x ns ls l rs
unfolding literals_of literal_at pick
literals_split x [] [] l rs e = absurd (let z : ◌≡◌ {A = ℕ} 0 1 = cc in omega arith)
literals_split x [] (y ∷ ls) l rs e = absurd (let z : ◌≡◌ {A = ℕ} 0 1 = cc in omega arith)
literals_split {P} x (j ∷ ns) ls l rs e = at (eqb (x j) 1) (eqb (x j) 0) ls refl refl e (λ ms f. literals_split x ns ms l rs f)
  where
    rest : List (Literal P)
    rest = literals_of x ns

    more : (o z : Bool) → eqb (x j) 1 ≡ o → eqb (x j) 0 ≡ z → {ms : List (Literal P)} → SplitAt x ns ms l rs → SplitAt x (j ∷ ns) (pick o (absent j ∷ ms) (pick z (present j ∷ ms) ms)) l rs
    more o z a b s =
        record {
          first = j ∷ s.first;
          last = s.last;
          split = ap (λ (n : List P). j ∷ n) s.split;
          of_first = rw (a, b, s.of_first) refl;
          of_last = s.of_last;
        }

    here : (y : Literal P) → pair_in y ≡ j → y ≡ l → rest ≡ rs → SplitAt x (j ∷ ns) [] l rs
    here y p q f = record { first = []; last = ns; split = ap (λ (i : P). i ∷ ns) (sym p ∙ ap pair_in q); of_first = refl; of_last = sym f }

    -- the literal of j stands first
    first_is : (y : Literal P) → pair_in y ≡ j → ((ms : List (Literal P)) → SplitAt x ns ms l rs → SplitAt x (j ∷ ns) (y ∷ ms) l rs) → (ms : List (Literal P)) → y ∷ rest ≡ ms ++ l ∷ rs
        → ((ms : List (Literal P)) → rest ≡ ms ++ l ∷ rs → SplitAt x ns ms l rs) → SplitAt x (j ∷ ns) ms l rs
    first_is y p longer [] e go =
        let same : y ≡ l = cc in
        let rest_is : rest ≡ rs = cc in
        here y p same rest_is
    first_is y p longer (z ∷ ms) e go =
        let same : y ≡ z = cc in
        let rest_is : rest ≡ ms ++ l ∷ rs = cc in
        rw (← same) (longer ms (go ms rest_is))

    at : (o z : Bool) (ms : List (Literal P)) → eqb (x j) 1 ≡ o → eqb (x j) 0 ≡ z → pick o (absent j ∷ rest) (pick z (present j ∷ rest) rest) ≡ ms ++ l ∷ rs
        → ((ms : List (Literal P)) → rest ≡ ms ++ l ∷ rs → SplitAt x ns ms l rs) → SplitAt x (j ∷ ns) ms l rs
    at true z ms a b e go = first_is (absent j) refl (λ ms s. more true z a b s) ms e go
    at false true ms a b e go = first_is (present j) refl (λ ms s. more false true a b s) ms e go
    at false false ms a b e go = more false false a b (go ms e)

-- the literals of x whose pairs pass a test are those of the drawing that has the entries of x there, and else none
pub those_literals : {P : Type 0} (x y : P → ℕ) (s : P → Bool) (ns : List P) → Each (λ k. y k ≡ pick (s k) (x k) 2) ns
    → those (λ (l : Literal P). s (pair_in l)) (literals_of x ns) ≡ literals_of y ns
unfolding those literals_of literal_at pick
those_literals x y s [] h = refl
those_literals {P} x y s (j ∷ ns) h = at (eqb (x j) 1) (eqb (x j) 0) (s j) refl refl refl (those_literals x y s ns (each_rest (λ k. y k ≡ pick (s k) (x k) 2) h))
  where
    test : Literal P → Bool
    test l = s (pair_in l)

    rest : List (Literal P)
    rest = literals_of y ns

    here : (b : Bool) → s j ≡ b → y j ≡ pick b (x j) 2
    here b e = rw e at (each_first (λ k. y k ≡ pick (s k) (x k) 2) h)

    none : s j ≡ false → rest ≡ pick (eqb (y j) 1) (absent j ∷ rest) (pick (eqb (y j) 0) (present j ∷ rest) rest)
    none e = rw (here false e) refl

    at : (o z b : Bool) → eqb (x j) 1 ≡ o → eqb (x j) 0 ≡ z → s j ≡ b → those test (literals_of x ns) ≡ rest
        → those test (pick o (absent j ∷ literals_of x ns) (pick z (present j ∷ literals_of x ns) (literals_of x ns))) ≡ pick (eqb (y j) 1) (absent j ∷ rest) (pick (eqb (y j) 0) (present j ∷ rest) rest)
    at true z true c d e go = rw (e, here true e, c, go) refl
    at true z false c d e go = rw (e, go) (none e)
    at false true true c d e go = rw (e, here true e, c, d, go) refl
    at false true false c d e go = rw (e, go) (none e)
    at false false true c d e go = rw (here true e, c, d, go) refl
    at false false false c d e go = rw go (none e)
