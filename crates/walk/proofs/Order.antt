-- The order of drawings along a list of pairs: irreflexive, transitive, total up to agreement, and the lexicographic
-- order of the entries.
use Prim.Native.Nat.{ℕ, ◌<◌, ◌≤◌}
use native.Mathlib.Omega.{arith}
use native.Mathlib.Decide.{ℕ_discrete}
use mathlib.Core.Path.{◌≡◌, refl, sym, ◌∙◌, ap, subst}
use mathlib.Core.Logic.{◌↔◌, ◌⊎◌, inl, inr}
use mathlib.Core.List.Memᴰ
use mathlib.Core.List.{List, [], ◌∷◌, ◌++◌, map, Memᴰ}
use Rattle.laws.specs.Each.{Each, each_none, each_cons, each_first, each_rest}
use Rattle.walk.specs.Earlier.{Earlier, LexLess}

module _ {P : Type 0} (x y : P → ℕ) where
  -- ---- one pair more

  -- x is earlier where it has 0 against 1 at the first pair
  pub earlier_here : {k : P} {ks : List P} → x k ≡ 0 → y k ≡ 1 → Earlier (k ∷ ks) x y
  earlier_here {k} {ks} z o =
      record { before = []; pair = k; after = ks; split = refl; agree = each_none (λ j. x j ≡ y j); zero_here = z; one_there = o }

  -- or agrees there and is earlier along the rest
  pub earlier_later : {k : P} {ks : List P} → x k ≡ y k → Earlier ks x y → Earlier (k ∷ ks) x y
  earlier_later {k} a e =
      record {
        before = k ∷ e.before;
        pair = e.pair;
        after = e.after;
        split = ap (λ l. k ∷ l) e.split;
        agree = each_cons (λ j. x j ≡ y j) a e.agree;
        zero_here = e.zero_here;
        one_there = e.one_there;
      }

  from_split : {k : P} {ks : List P} (before : List P) (j : P) (after : List P) → k ∷ ks ≡ before ++ j ∷ after
      → Each (λ i. x i ≡ y i) before → x j ≡ 0 → y j ≡ 1 → ((x k ≡ 0) × (y k ≡ 1)) ⊎ ((x k ≡ y k) × Earlier ks x y)
  from_split {k} {ks} [] j after e a z o =
      let first : k ≡ j = cc in
      inl (ap x first ∙ z, ap y first ∙ o)
  from_split {k} {ks} (i ∷ before) j after e a z o =
      let first : k ≡ i = cc in
      inr (
        ap x first ∙ each_first (λ i. x i ≡ y i) a ∙ ap y (sym first),
        record {
          before = before;
          pair = j;
          after = after;
          split = cc;
          agree = each_rest (λ i. x i ≡ y i) a;
          zero_here = z;
          one_there = o;
        },
      )

  -- and in no other way
  pub earlier_cases : {k : P} {ks : List P} → Earlier (k ∷ ks) x y → ((x k ≡ 0) × (y k ≡ 1)) ⊎ ((x k ≡ y k) × Earlier ks x y)
  earlier_cases e = from_split e.before e.pair e.after e.split e.agree e.zero_here e.one_there

  no_split : (before : List P) (j : P) (after : List P) → [] ≡ before ++ j ∷ after → ⊥
  no_split [] j after e = let z : ◌≡◌ {A = ℕ} 0 1 = cc in omega arith
  no_split (i ∷ before) j after e = let z : ◌≡◌ {A = ℕ} 0 1 = cc in omega arith

  -- along no pairs, none is earlier
  pub earlier_none : Earlier [] x y → ⊥
  earlier_none e = no_split e.before e.pair e.after e.split

  -- x is earlier where at one pair it has at most what y has, which is 0 or 1, and is earlier along the rest
  pub earlier_under : {k : P} {ks : List P} → x k ≤ y k → y k ≤ 1 → Earlier ks x y → Earlier (k ∷ ks) x y
  earlier_under {k} {ks} h l e = at (ℕ_discrete (x k) (y k))
    where
      at : Dec (x k ≡ y k) → Earlier (k ∷ ks) x y
      at (yes a) = earlier_later a e
      at (no n) = earlier_here (omega arith) (omega arith)

-- ---- an order

-- no drawing is earlier than itself
pub earlier_irreflexive : {P : Type 0} (x : P → ℕ) (ks : List P) → Earlier ks x x → ⊥
earlier_irreflexive x ks e = omega (arith, e.zero_here, e.one_there)

pub earlier_transitive : {P : Type 0} (x y z : P → ℕ) (ks : List P) → Earlier ks x y → Earlier ks y z → Earlier ks x z
earlier_transitive x y z [] e f = absurd (earlier_none x y e)
earlier_transitive {P} x y z (k ∷ ks) e f =
    at (earlier_cases x y e) (earlier_cases y z f) (λ g h. earlier_transitive x y z ks g h)
  where
    at : ((x k ≡ 0) × (y k ≡ 1)) ⊎ ((x k ≡ y k) × Earlier ks x y) → ((y k ≡ 0) × (z k ≡ 1)) ⊎ ((y k ≡ z k) × Earlier ks y z)
        → (Earlier ks x y → Earlier ks y z → Earlier ks x z) → Earlier (k ∷ ks) x z
    at (inl a) (inl b) g = absurd (omega arith)
    at (inl a) (inr b) g = earlier_here x z a.0 (omega arith)
    at (inr a) (inl b) g = earlier_here x z (omega arith) b.1
    at (inr a) (inr b) g = earlier_later x z (a.0 ∙ b.0) (g a.1 b.1)

-- of two drawings with entries 0 and 1 one is earlier, or they agree
pub earlier_trichotomy : {P : Type 0} (x y : P → ℕ) (ks : List P) → Each (λ k. x k ≤ 1) ks → Each (λ k. y k ≤ 1) ks
    → Earlier ks x y ⊎ Earlier ks y x ⊎ Each (λ k. x k ≡ y k) ks
earlier_trichotomy x y [] h g = inr (inr (each_none (λ k. x k ≡ y k)))
earlier_trichotomy {P} x y (k ∷ ks) h g =
    at (ℕ_discrete (x k) (y k)) (ℕ_discrete (x k) 0)
    (earlier_trichotomy x y ks (each_rest (λ k. x k ≤ 1) h) (each_rest (λ k. y k ≤ 1) g))
  where
    hx : x k ≤ 1
    hx = each_first (λ k. x k ≤ 1) h

    gy : y k ≤ 1
    gy = each_first (λ k. y k ≤ 1) g

    on : x k ≡ y k → Earlier ks x y ⊎ Earlier ks y x ⊎ Each (λ k. x k ≡ y k) ks
        → Earlier (k ∷ ks) x y ⊎ Earlier (k ∷ ks) y x ⊎ Each (λ k. x k ≡ y k) (k ∷ ks)
    on a (inl e) = inl (earlier_later x y a e)
    on a (inr (inl e)) = inr (inl (earlier_later y x (sym a) e))
    on a (inr (inr e)) = inr (inr (each_cons (λ k. x k ≡ y k) a e))

    at : Dec (x k ≡ y k) → Dec (x k ≡ 0) → Earlier ks x y ⊎ Earlier ks y x ⊎ Each (λ k. x k ≡ y k) ks
        → Earlier (k ∷ ks) x y ⊎ Earlier (k ∷ ks) y x ⊎ Each (λ k. x k ≡ y k) (k ∷ ks)
    at (yes a) z rest = on a rest
    at (no n) (yes z) rest = inl (earlier_here x y z (omega (arith, gy)))
    at (no n) (no z) rest = inr (inl (earlier_here y x (omega (arith, hx, gy)) (omega (arith, hx))))

-- ---- the lexicographic order

-- earlier, for entries 0 and 1, is the lexicographic order of the entries written one after the other
pub earlier_lexicographic : {P : Type 0} (x y : P → ℕ) (ks : List P) → Each (λ k. x k ≤ 1) ks → Each (λ k. y k ≤ 1) ks
    → Earlier ks x y ↔ LexLess (map x ks) (map y ks)
unfolding LexLess
earlier_lexicographic x y [] h g = (earlier_none x y, λ e. absurd e)
earlier_lexicographic {P} x y (k ∷ ks) h g =
    let rest = earlier_lexicographic x y ks (each_rest (λ k. x k ≤ 1) h) (each_rest (λ k. y k ≤ 1) g) in
    (λ e. to rest.0 (earlier_cases x y e), from rest.1)
  where
    gy : y k ≤ 1
    gy = each_first (λ k. y k ≤ 1) g

    to : (Earlier ks x y → LexLess (map x ks) (map y ks)) → ((x k ≡ 0) × (y k ≡ 1)) ⊎ ((x k ≡ y k) × Earlier ks x y)
        → (x k < y k) ⊎ ((x k ≡ y k) × LexLess (map x ks) (map y ks))
    to f (inl a) = inl (omega arith)
    to f (inr a) = inr (a.0, f a.1)

    from : (LexLess (map x ks) (map y ks) → Earlier ks x y) → (x k < y k) ⊎ ((x k ≡ y k) × LexLess (map x ks) (map y ks))
        → Earlier (k ∷ ks) x y
    from f (inl a) = earlier_here x y (omega (arith, gy)) (omega (arith, gy))
    from f (inr a) = earlier_later x y a.0 (f a.1)

-- ---- drawings that agree

-- drawings that agree along ks with two of which one is earlier are so too
pub earlier_alike : {P : Type 0} (ks : List P) (x y z w : P → ℕ) → Each (λ k. z k ≡ x k) ks → Each (λ k. w k ≡ y k) ks → Earlier ks x y → Earlier ks z w
earlier_alike {P} ks x y z w a b e =
    record {
      before = e.before;
      pair = e.pair;
      after = e.after;
      split = e.split;
      agree = λ k m. a k (first k m) ∙ e.agree k m ∙ sym (b k (first k m));
      zero_here = a e.pair here ∙ e.zero_here;
      one_there = b e.pair here ∙ e.one_there;
    }
  where
    first : (k : P) → Memᴰ k e.before → Memᴰ k ks
    first k m = subst (λ l. Memᴰ k l) (sym e.split) (Memᴰ.append_left (e.pair ∷ e.after) m)

    here : Memᴰ e.pair ks
    here = subst (λ l. Memᴰ e.pair l) (sym e.split) (Memᴰ.append_right e.before (Memᴰ.head refl))
