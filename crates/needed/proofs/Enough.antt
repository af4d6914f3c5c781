-- Whether literals are enough: having more, they stay so; all that a won walk meets are; what is kept is, and none of it can be dropped.
use Prim.Native.Nat.{ℕ, zero, suc, ◌≤◌}
use native.Mathlib.Omega.{arith}
use mathlib.Core.Path.{◌≡◌, refl, sym, ◌∙◌, ap}
use mathlib.Core.Logic.{◌↔◌, ◌⊎◌, inl, inr}
use mathlib.Core.Bool.{Bool, true, false≢true, true≢false}
use mathlib.Core.List.Memᴰ
use mathlib.Core.List.{List, [], ◌∷◌, ◌++◌, map, Memᴰ}
use Rattle.laws.specs.Each.{Each}
use Rattle.walk.specs.Walk.{Tells, Outcome, won, lost, still_open, walk}
use Rattle.walk.specs.Clause.{Literal, absent, present, pair_in, FalseIn, Breaks}
use Rattle.walk.specs.Earlier.{Earlier, copy}
use Rattle.walk.specs.Meaning.{Full, Extends, Won}
use Rattle.walk.specs.Meeting.{met, only}
use Rattle.walk.proofs.Meaning.{lost_not_won, open_not_won, Unbeaten, won_means, won_more, won_or_not}
use Rattle.walk.proofs.Only.{only_listed, only_known, extends_only}
use Rattle.walk.proofs.Meeting.{met_within, met_enough}
use Rattle.walk.proofs.Literals.{literals_in_words}
use Rattle.needed.specs.Kept.{Monotone}
use Rattle.needed.specs.Enough.{is_won, enough, literals, needed}
use Rattle.needed.proofs.Kept.{kept_enough, kept_listed, kept_needed}

-- the test tells whether the walk is won
pub won_test : {P : Type 0} (o : Outcome P) → (is_won o ≡ true) ↔ ((k : P) × (o ≡ won k))
unfolding is_won
won_test (won k) = (λ e. (k, refl), λ e. refl)
won_test lost = (λ e. absurd (false≢true e), λ e. absurd (lost_not_won e.1))
won_test still_open = (λ e. absurd (false≢true e), λ e. absurd (open_not_won e.1))

-- the entry at the pair of a literal that is false is known
pub false_known : {P : Type 0} (v : P → ℕ) (l : Literal P) → FalseIn v l → v (pair_in l) ≤ 1
false_known v (absent k) f = omega arith
false_known v (present k) f = omega arith

-- a literal that is false in two drawings finds the same entry in both
false_alike : {P : Type 0} (v w : P → ℕ) (l : Literal P) → FalseIn v l → FalseIn w l → w (pair_in l) ≡ v (pair_in l)
false_alike v w (absent k) f h = h ∙ sym f
false_alike v w (present k) f h = h ∙ sym f

-- a known entry has a literal that is false
pub literal_for : {P : Type 0} (v : P → ℕ) (k : P) → v k ≤ 1 → (l : Literal P) × (pair_in l ≡ k) × FalseIn v l
literal_for {P} v k h = at (v k) refl h
  where
    at : (a : ℕ) → v k ≡ a → a ≤ 1 → (l : Literal P) × (pair_in l ≡ k) × FalseIn v l
    at zero e h = (present k, refl, e)
    at (suc zero) e h = (absent k, refl, e)
    at (suc (suc a)) e h = absurd (omega arith)

module _ {P : Type 0} {same : P → P → Bool} (tells : Tells same) (v : P → ℕ) where
  -- what breaks literals of v's has all that they know
  breaks_only : (L : P → Type 0) (lits : List (Literal P)) → Breaks lits v → (H : P → ℕ) → Breaks lits H
      → Extends L (only same (map pair_in lits) v) H
  breaks_only L lits b H c =
      extends_only tells L (map pair_in lits) v H
      (λ j m h. let s = Memᴰ.of_map pair_in lits m in ap H (sym s.2) ∙ false_alike v H s.0 (b s.0 s.1) (c s.0 s.1) ∙ ap v s.2)

  -- a literal is false in what knows some pairs of v alone exactly where its pair is one of them and it is false in v
  false_only : (js : List P) (l : Literal P) → FalseIn (only same js v) l ↔ (Memᴰ (pair_in l) js × FalseIn v l)
  false_only js l = (to l, λ h. from l h.0 h.1)
    where
      to : (l : Literal P) → FalseIn (only same js v) l → Memᴰ (pair_in l) js × FalseIn v l
      to (absent k) f = let m = (only_known tells js v k (omega arith)).0 in (m, sym (only_listed tells js v k m) ∙ f)
      to (present k) f = let m = (only_known tells js v k (omega arith)).0 in (m, sym (only_listed tells js v k m) ∙ f)

      from : (l : Literal P) → Memᴰ (pair_in l) js → FalseIn v l → FalseIn (only same js v) l
      from (absent k) m f = only_listed tells js v k m ∙ f
      from (present k) m f = only_listed tells js v k m ∙ f

  -- the literals of a walk are those of the pairs met that are known in v
  pub literals_exactly : (img : P → P) (ks numbering : List P) (l : Literal P)
      → Memᴰ l (literals same img ks v numbering) ↔ (Memᴰ (pair_in l) numbering × Memᴰ (pair_in l) (met same img ks v) × FalseIn v l)
  unfolding literals
  literals_exactly img ks numbering l =
      let words = literals_in_words (only same (met same img ks v) v) numbering l in
      let are = false_only (met same img ks v) l in (
        λ m. ((words.0 m).0, (are.0 (words.0 m).1).0, (are.0 (words.0 m).1).1),
        λ h. words.1 (h.0, are.1 (h.1, h.2)),
      )

module _ {P : Type 0} {same : P → P → Bool} (tells : Tells same) (L : P → Type 0) (img : P → P)
    (ks : List P) (ls : Each L ks) (is : Each (λ k. L (img k)) ks) (v : P → ℕ) where
  -- the test tells whether the walk over what the literals know is won
  pub enough_tells : (lits : List (Literal P)) → (enough same img ks v lits ≡ true) ↔ Won same img ks (only same (map pair_in lits) v)
  unfolding enough
  enough_tells lits = won_test (walk same img ks (only same (map pair_in lits) v))

  -- having more literals, they stay enough
  pub enough_more : Monotone (enough same img ks v)
  enough_more xs ys part e =
      (enough_tells ys).1
      (won_more tells L img ks ls is (only same (map pair_in xs) v) (only same (map pair_in ys) v)
      (extends_only tells L (map pair_in xs) v (only same (map pair_in ys) v) (λ j m h. only_listed tells (map pair_in ys) v j (more j m))) ((enough_tells xs).0 e))
    where
      more : (j : P) → Memᴰ j (map pair_in xs) → Memᴰ j (map pair_in ys)
      more j m = let s = Memᴰ.of_map pair_in xs m in Memᴰ.cast (sym s.2) (Memᴰ.map pair_in (part s.0 s.1))

  module _ (numbering : List P) (all : (k : P) → L k → Memᴰ k numbering) where
    -- the literals of a walk that is won are enough
    pub literals_enough : Won same img ks v → enough same img ks v (literals same img ks v numbering) ≡ true
    literals_enough w =
        (enough_tells (literals same img ks v numbering)).1
        (won_more tells L img ks ls is (only same js v) (only same (map pair_in (literals same img ks v numbering)) v)
        (extends_only tells L js v (only same (map pair_in (literals same img ks v numbering)) v)
        (λ j m h. only_listed tells (map pair_in (literals same img ks v numbering)) v j (has j m h))) (w.0, met_enough tells img ks v ∙ w.1))
      where
        js : List P
        js = met same img ks v

        has : (j : P) → Memᴰ j (met same img ks v) → v j ≤ 1 → Memᴰ j (map pair_in (literals same img ks v numbering))
        has j m h =
            let l = literal_for v j h in
            Memᴰ.cast (sym l.1) (Memᴰ.map pair_in ((literals_exactly tells v img ks numbering l.0).1 (rw l.1 (all j (met_within same img L ks ls is v j m)), rw l.1 m, l.2)))

    -- ---- what is kept of them

    -- each is one of them
    pub needed_met : Each (λ l. Memᴰ l (literals same img ks v numbering)) (needed same img ks v numbering)
    unfolding needed
    needed_met = kept_listed (enough same img ks v) [] (literals same img ks v numbering)

    -- and so is false in v
    pub needed_false : Breaks (needed same img ks v numbering) v
    needed_false l m = ((literals_exactly tells v img ks numbering l).0 (needed_met l m)).2

    -- a full drawing that breaks it has an earlier copy
    pub needed_sound : Won same img ks v → (H : P → ℕ) → Full L H → Breaks (needed same img ks v numbering) H → Earlier ks (copy img H) H
    needed_sound w H f b =
        (won_means tells L img ks ls is (only same (map pair_in (needed same img ks v numbering)) v)).0 ((enough_tells (needed same img ks v numbering)).0 still) H f
        (breaks_only tells v L (needed same img ks v numbering) needed_false H b)
      where
        still : enough same img ks v (needed same img ks v numbering) ≡ true
        still = unfold needed in kept_enough (enough same img ks v) [] (literals same img ks v numbering) (literals_enough w)

    -- without any one of them there is a full drawing that breaks all others and whose copy is not earlier
    pub needed_each : (xs : List (Literal P)) (l : Literal P) (ys : List (Literal P)) → needed same img ks v numbering ≡ xs ++ l ∷ ys
        → Unbeaten tells L img ks (only same (map pair_in (xs ++ ys)) v)
    needed_each xs l ys e = at (won_or_not tells L img ks ls is (only same (map pair_in (xs ++ ys)) v))
      where
        at : Won same img ks (only same (map pair_in (xs ++ ys)) v) ⊎ Unbeaten tells L img ks (only same (map pair_in (xs ++ ys)) v)
            → Unbeaten tells L img ks (only same (map pair_in (xs ++ ys)) v)
        at (inl w) =
            absurd (true≢false (sym ((enough_tells (xs ++ ys)).1 w)
            ∙ kept_needed (enough same img ks v) enough_more [] (literals same img ks v numbering) xs l ys (unfold needed in e)))
        at (inr u) = u
