-- What is kept is enough, none of it can be dropped, and it is what a test keeps that says of each whether the others are enough.
use Prim.Native.Nat.{ℕ}
use native.Mathlib.Omega.{arith}
use mathlib.Core.Path.{◌≡◌, refl, sym, ◌∙◌, ap}
use mathlib.Core.Logic.{◌⊎◌, inl, inr, ◌↔◌}
use mathlib.Core.Bool.{Bool, true, false, not, true≢false}
use mathlib.Core.List.Memᴰ
use mathlib.Core.List.{List, [], ◌∷◌, ◌++◌, append_assoc, Memᴰ}
use Rattle.laws.specs.Test.{pick}
use Rattle.laws.specs.TestLaws.{fails, not_both_ways}
use Rattle.laws.specs.Each.{Each, each_none, each_cons}
use Rattle.needed.specs.Kept.{kept, Monotone, those}

no_split : {A : Type 0} (xs : List A) (x : A) (ys : List A) → [] ≡ xs ++ x ∷ ys → ⊥
no_split [] x ys e = let z : ◌≡◌ {A = ℕ} 0 1 = cc in omega arith
no_split (i ∷ xs) x ys e = let z : ◌≡◌ {A = ℕ} 0 1 = cc in omega arith

-- ---- of two

module _ {A : Type 0} (enough : List A → Bool) (x y : A) where
  -- where either is enough, the last goes
  pub last_goes : enough (x ∷ []) ≡ true → enough [] ≡ false → kept enough [] (x ∷ y ∷ []) ≡ x ∷ []
  unfolding kept pick
  last_goes a b = rw (a, b)

  -- where the last stays, the first may still go
  pub first_goes : enough (x ∷ []) ≡ false → enough (y ∷ []) ≡ true → kept enough [] (x ∷ y ∷ []) ≡ y ∷ []
  unfolding kept pick
  first_goes a b = rw (a, b)

-- ---- of any list

module _ {A : Type 0} (enough : List A → Bool) where
  -- what is kept is enough where the whole was
  pub kept_enough : (before xs : List A) → enough (before ++ xs) ≡ true → enough (before ++ kept enough before xs) ≡ true
  unfolding kept pick
  kept_enough before [] e = e
  kept_enough before (x ∷ xs) e =
      at (enough (before ++ rest)) refl (kept_enough (before ++ x ∷ []) xs (rw append_assoc e))
    where
      rest : List A
      rest = kept enough (before ++ x ∷ []) xs

      at : (t : Bool) → enough (before ++ rest) ≡ t → enough ((before ++ x ∷ []) ++ rest) ≡ true → enough (before ++ pick t rest (x ∷ rest)) ≡ true
      at true e h = e
      at false e h = rw append_assoc at h

  -- it is part of the whole
  pub kept_listed : (before xs : List A) → Each (λ x. Memᴰ x xs) (kept enough before xs)
  unfolding kept pick
  kept_listed before [] = each_none (λ x. Memᴰ x [])
  kept_listed before (x ∷ xs) = at (enough (before ++ kept enough (before ++ x ∷ []) xs)) (λ y m. Memᴰ.tail (kept_listed (before ++ x ∷ []) xs y m))
    where
      rest : List A
      rest = kept enough (before ++ x ∷ []) xs

      at : (t : Bool) → Each (λ y. Memᴰ y (x ∷ xs)) rest → Each (λ y. Memᴰ y (x ∷ xs)) (pick t rest (x ∷ rest))
      at true h = h
      at false h = each_cons (λ y. Memᴰ y (x ∷ xs)) (Memᴰ.head refl) h

  -- without any one of it, it is not
  pub kept_needed : Monotone enough → (before xs : List A) (ls : List A) (x : A) (rs : List A)
      → kept enough before xs ≡ ls ++ x ∷ rs → enough (before ++ (ls ++ rs)) ≡ false
  unfolding kept pick
  kept_needed mono before [] ls x rs e = absurd (no_split ls x rs e)
  kept_needed mono before (y ∷ xs) ls x rs e =
      at (enough (before ++ rest)) refl e (kept_needed mono (before ++ y ∷ []) xs)
    where
      rest : List A
      rest = kept enough (before ++ y ∷ []) xs

      fewer : (zs : List A) → enough ((before ++ y ∷ []) ++ zs) ≡ false → enough (before ++ zs) ≡ false
      fewer zs f = fails (enough (before ++ zs)) (λ t. not_both_ways (enough ((before ++ y ∷ []) ++ zs)) (mono (before ++ zs) ((before ++ y ∷ []) ++ zs) part t) f)
        where
          side : {z : A} → Memᴰ z before ⊎ Memᴰ z zs → Memᴰ z ((before ++ y ∷ []) ++ zs)
          side (inl m) = Memᴰ.append_left zs (Memᴰ.append_left (y ∷ []) m)
          side (inr m) = Memᴰ.append_right (before ++ y ∷ []) m

          part : Each (λ z. Memᴰ z ((before ++ y ∷ []) ++ zs)) (before ++ zs)
          part z m = side (Memᴰ.append_cases before m)

      first : (ls : List A) → enough (before ++ rest) ≡ false → y ∷ rest ≡ ls ++ x ∷ rs
          → ((ls : List A) (x : A) (rs : List A) → rest ≡ ls ++ x ∷ rs → enough ((before ++ y ∷ []) ++ (ls ++ rs)) ≡ false)
          → enough (before ++ (ls ++ rs)) ≡ false
      first [] f e go =
          let same : rest ≡ rs = cc in
          rw (← same) f
      first (z ∷ ls) f e go =
          let head : y ≡ z = cc in
          let tail : rest ≡ ls ++ x ∷ rs = cc in
          rw (← head) (rw append_assoc at (go ls x rs tail))

      at : (t : Bool) → enough (before ++ rest) ≡ t → pick t rest (y ∷ rest) ≡ ls ++ x ∷ rs
          → ((ls : List A) (x : A) (rs : List A) → rest ≡ ls ++ x ∷ rs → enough ((before ++ y ∷ []) ++ (ls ++ rs)) ≡ false)
          → enough (before ++ (ls ++ rs)) ≡ false
      at true t e go = fewer (ls ++ rs) (go ls x rs e)
      at false t e go = first ls t e go

  -- a test by which each is dropped exactly where what stands before it and what the test keeps after it are enough
  pub kept_by : (t : A → Bool) (before xs : List A)
      → ((ls : List A) (x : A) (rs : List A) → xs ≡ ls ++ x ∷ rs → enough (before ++ (ls ++ those t rs)) ≡ not (t x))
      → kept enough before xs ≡ those t xs
  unfolding kept those pick
  kept_by t before [] h = refl
  kept_by t before (x ∷ xs) h =
      let rest : kept enough (before ++ x ∷ []) xs ≡ those t xs =
      kept_by t (before ++ x ∷ []) xs (λ ls y rs e. ap enough (append_assoc before (x ∷ []) (ls ++ those t rs)) ∙ h (x ∷ ls) y rs (ap (λ (l : List A). x ∷ l) e)) in
      rw (rest, h [] x xs refl) (turned (t x))
    where
      turned : (s : Bool) → pick (not s) (those t xs) (x ∷ those t xs) ≡ pick s (x ∷ those t xs) (those t xs)
      turned true = refl
      turned false = refl

-- those for which the test holds are the listed ones with it
pub those_are : {A : Type 0} (t : A → Bool) (xs : List A) (x : A) → Memᴰ x (those t xs) ↔ (Memᴰ x xs × (t x ≡ true))
unfolding those pick
those_are t [] x = (λ m. elim m [ ], λ m. m.0)
those_are {A} t (y ∷ xs) x = (to (t y) refl (those_are t xs x).0, λ m. from (t y) refl (those_are t xs x).1 (Memᴰ.cases_cons m.0) m.1)
  where
    to : (s : Bool) → t y ≡ s → (Memᴰ x (those t xs) → Memᴰ x xs × (t x ≡ true))
        → Memᴰ x (pick s (y ∷ those t xs) (those t xs)) → Memᴰ x (y ∷ xs) × (t x ≡ true)
    to true e go m = here (Memᴰ.cases_cons m)
      where
        here : (x ≡ y) ⊎ Memᴰ x (those t xs) → Memᴰ x (y ∷ xs) × (t x ≡ true)
        here (inl q) = (Memᴰ.head q, ap t q ∙ e)
        here (inr i) = (Memᴰ.tail (go i).0, (go i).1)
    to false e go m = (Memᴰ.tail (go m).0, (go m).1)

    from : (s : Bool) → t y ≡ s → (Memᴰ x xs × (t x ≡ true) → Memᴰ x (those t xs))
        → (x ≡ y) ⊎ Memᴰ x xs → t x ≡ true → Memᴰ x (pick s (y ∷ those t xs) (those t xs))
    from true e go (inl q) h = Memᴰ.head q
    from true e go (inr m) h = Memᴰ.tail (go (m, h))
    from false e go (inl q) h = absurd (true≢false (sym h ∙ ap t q ∙ e))
    from false e go (inr m) h = go (m, h)
