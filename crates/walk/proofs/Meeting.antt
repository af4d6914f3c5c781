-- A walk goes by the entries that it meets, and their literals are false in the drawing.
use Prim.Native.Nat.{ℕ}
use mathlib.Core.Path.{◌≡◌, refl, sym, ◌∙◌, ap}
use mathlib.Core.Logic.{◌↔◌, ◌⊎◌, inl, inr, ◌≢◌}
use mathlib.Core.Bool.{Bool, true, false}
use mathlib.Core.List.Memᴰ
use mathlib.Core.List.{List, [], ◌∷◌, ◌++◌, Memᴰ}
use lib.Dec.{eqb}
use borrow.Author.Tests.{eqb-true}
use Rattle.laws.specs.Test.{pick}
use Rattle.laws.specs.TestLaws.{fails}
use Rattle.laws.specs.Each.{Each, each_none, each_cons, each_first, each_rest}
use Rattle.walk.specs.Walk.{Tells, won, Move, skips, wins, goes_on, drives_zero, drives_one, loses, move, move_at, ending, put, driven, walk}
use Rattle.walk.specs.Clause.{absent, present, FalseIn, Breaks}
use Rattle.walk.specs.Meeting.{meeting, met, with_images, only, literal_at, literals_of}
use Rattle.walk.proofs.Put.{apart}
use Rattle.walk.proofs.Step.{Stepped, by_itself, winning, alike, zero_driven, one_driven, losing, stepped}
use Rattle.walk.proofs.Only.{only_listed}
use Rattle.walk.proofs.Meaning.{lost_not_won, open_not_won}

-- ---- what a walk meets decides it

-- entries that are alike stay so where the same is put in
put_alike : {P : Type 0} (same : P → P → Bool) (k : P) (x : ℕ) (v w : P → ℕ) (j : P) → w j ≡ v j → put same k x w j ≡ put same k x v j
unfolding put
put_alike same k x v w j e = rw e

module _ {P : Type 0} {same : P → P → Bool} (tells : Tells same) (img : P → P) where
  -- a drawing with the same entries at the pairs met at has the same walk
  pub met_decides : (ks : List P) (v w : P → ℕ) → Each (λ j. w j ≡ v j) (met same img ks v) → walk same img ks w ≡ walk same img ks v
  unfolding walk ending driven met meeting
  met_decides [] v w h = refl
  met_decides (k ∷ ks) v w h = at (stepped tells v img k) refl h (met_decides ks)
    where
      as_v : {m : Move} {rest : List P} → move_at same img v k ≡ m → Each (λ j. w j ≡ v j) (k ∷ img k ∷ rest) → move_at same img w k ≡ m
      as_v e h =
          let here : w k ≡ v k = each_first (λ j. w j ≡ v j) h in
          let there : w (img k) ≡ v (img k) = each_first (λ j. w j ≡ v j) (each_rest (λ j. w j ≡ v j) h) in
          rw (here, there) e

      past : {rest : List P} → Each (λ j. w j ≡ v j) (k ∷ img k ∷ rest) → Each (λ j. w j ≡ v j) rest
      past h = each_rest (λ j. w j ≡ v j) (each_rest (λ j. w j ≡ v j) h)

      at : {m : Move} → Stepped v img k m → move_at same img v k ≡ m
          → Each (λ j. w j ≡ v j) (meeting m k (img k) (met same img ks (driven same m k (img k) v)))
          → ((v w : P → ℕ) → Each (λ j. w j ≡ v j) (met same img ks v) → walk same img ks w ≡ walk same img ks v)
          → ending (move_at same img w k) k (walk same img ks (driven same (move_at same img w k) k (img k) w))
          ≡ ending m k (walk same img ks (driven same m k (img k) v))
      at (by_itself p) e h go = rw (skipped) (go v w h)
        where
          own : same (img k) k ≡ true
          own = rw p (tells.itself k)

          skipped : move_at same img w k ≡ skips
          skipped = unfold move pick in rw own
      at (winning n a b) e h go = rw (as_v e h)
      at (alike n u b) e h go = rw (as_v e h) (go v w (past h))
      at (zero_driven n u b) e h go = rw (as_v e h) (go (put same k 0 v) (put same k 0 w) (λ j m. put_alike same k 0 v w j (past h j m)))
      at (one_driven n a u) e h go = rw (as_v e h) (go (put same (img k) 1 v) (put same (img k) 1 w) (λ j m. put_alike same (img k) 1 v w j (past h j m)))
      at (losing n a b) e h go = rw (as_v e h)

  -- the drawing that knows alone what the walk meets is walked alike, and won at the same pair
  pub met_enough : (ks : List P) (v : P → ℕ) → walk same img ks (only same (met same img ks v) v) ≡ walk same img ks v
  met_enough ks v = met_decides ks v (only same (met same img ks v) v) (only_listed tells (met same img ks v) v)

  -- ---- which pairs those are

  -- ks is split at the pair w, and js are its pairs up to and with w that aren't their own images, each with its image
  pub record UpTo (ks : List P) (w : P) (js : List P) : Type 0 where
    pub before : List P
    pub after : List P
    pub split : ks ≡ before ++ w ∷ after
    pub pairs : js ≡ with_images same img (before ++ w ∷ [])

  -- a walk that is won at w meets each pair up to w that isn't its own image, and its image
  pub won_meets : (ks : List P) (v : P → ℕ) (w : P) → walk same img ks v ≡ won w → UpTo ks w (met same img ks v)
  unfolding walk ending driven met meeting with_images pick
  won_meets [] v w e = absurd (open_not_won e)
  won_meets (k ∷ ks) v w e = at (stepped tells v img k) e (λ v e. won_meets ks v w e)
    where
      moved : img k ≢ k → same (img k) k ≡ false
      moved n = fails (same (img k) k) (λ t. n (tells.equal (img k) k t))

      more : img k ≢ k → {js : List P} → UpTo ks w js → UpTo (k ∷ ks) w (k ∷ img k ∷ js)
      more n u =
          record {
            before = k ∷ u.before;
            after = u.after;
            split = ap (λ l. k ∷ l) u.split;
            pairs = rw (moved n) (ap (λ l. k ∷ img k ∷ l) u.pairs);
          }

      at : {m : Move} → Stepped v img k m → ending m k (walk same img ks (driven same m k (img k) v)) ≡ won w
          → ((v : P → ℕ) → walk same img ks v ≡ won w → UpTo ks w (met same img ks v))
          → UpTo (k ∷ ks) w (meeting m k (img k) (met same img ks (driven same m k (img k) v)))
      at (by_itself p) e go =
          let own : same (img k) k ≡ true = rw p (tells.itself k) in
          let u : UpTo ks w (met same img ks v) = go v e in
          record { before = k ∷ u.before; after = u.after; split = ap (λ l. k ∷ l) u.split; pairs = rw own u.pairs }
      at (winning n a b) e go =
          let first : k ≡ w = cc in
          record { before = []; after = ks; split = ap (λ j. j ∷ ks) first; pairs = rw (← first, moved n) }
      at (alike n u b) e go = more n (go v e)
      at (zero_driven n u b) e go = more n (go (put same k 0 v) e)
      at (one_driven n a u) e go = more n (go (put same (img k) 1 v) e)
      at (losing n a b) e go = absurd (lost_not_won e)

-- j is a pair of ks that isn't its own image, or the image of one
abbrev pub MetIn : {P : Type 0} → (P → P) → List P → P → Type 0
MetIn {P} img ks j = (i : P) × Memᴰ i ks × (img i ≢ i) × ((j ≡ i) ⊎ (j ≡ img i))

-- which pairs those are
pub with_images_lem : {P : Type 0} {same : P → P → Bool} → Tells same → (img : P → P) (ks : List P) (j : P)
    → Memᴰ j (with_images same img ks) ↔ MetIn img ks j
unfolding with_images pick
with_images_lem tells img [] j = (λ m. elim m [ ], λ h. absurd (Memᴰ.not-nil h.1))
with_images_lem {P} {same} tells img (k ∷ ks) j = (to (same (img k) k) refl (with_images_lem tells img ks j).0, from (same (img k) k) refl (with_images_lem tells img ks j).1)
  where
    to : (t : Bool) → same (img k) k ≡ t → (Memᴰ j (with_images same img ks) → MetIn img ks j)
        → Memᴰ j (pick t (with_images same img ks) (k ∷ img k ∷ with_images same img ks)) → MetIn img (k ∷ ks) j
    to true e go m = let h = go m in (h.0, Memᴰ.tail h.1, h.2, h.3)
    to false e go m = first (Memᴰ.cases_cons m)
      where
        second : (j ≡ img k) ⊎ Memᴰ j (with_images same img ks) → MetIn img (k ∷ ks) j
        second (inl q) = (k, Memᴰ.head refl, apart tells e, inr q)
        second (inr n) = let h = go n in (h.0, Memᴰ.tail h.1, h.2, h.3)

        first : (j ≡ k) ⊎ Memᴰ j (img k ∷ with_images same img ks) → MetIn img (k ∷ ks) j
        first (inl q) = (k, Memᴰ.head refl, apart tells e, inl q)
        first (inr n) = second (Memᴰ.cases_cons n)

    from : (t : Bool) → same (img k) k ≡ t → (MetIn img ks j → Memᴰ j (with_images same img ks))
        → MetIn img (k ∷ ks) j → Memᴰ j (pick t (with_images same img ks) (k ∷ img k ∷ with_images same img ks))
    from true e go h = at (Memᴰ.cases_cons h.1)
      where
        at : (h.0 ≡ k) ⊎ Memᴰ h.0 ks → Memᴰ j (with_images same img ks)
        at (inl q) = absurd (h.2 (ap img q ∙ tells.equal (img k) k e ∙ sym q))
        at (inr n) = go (h.0, n, h.2, h.3)
    from false e go h = at (Memᴰ.cases_cons h.1) h.3
      where
        at : (h.0 ≡ k) ⊎ Memᴰ h.0 ks → (j ≡ h.0) ⊎ (j ≡ img h.0) → Memᴰ j (k ∷ img k ∷ with_images same img ks)
        at (inl q) (inl d) = Memᴰ.head (d ∙ q)
        at (inl q) (inr d) = Memᴰ.tail (Memᴰ.head (d ∙ ap img q))
        at (inr n) d = Memᴰ.tail (Memᴰ.tail (go (h.0, n, h.2, d)))

-- a walk meets only its pairs and their images
pub met_within : {P : Type 0} (same : P → P → Bool) (img : P → P) (L : P → Type 0) (ks : List P) → Each L ks → Each (λ k. L (img k)) ks → (v : P → ℕ) → Each L (met same img ks v)
unfolding met meeting
met_within same img L [] ls is v = each_none L
met_within {P} same img L (k ∷ ks) ls is v = at (move_at same img v k) (met_within same img L ks (each_rest L ls) (each_rest (λ k. L (img k)) is))
  where
    two : {js : List P} → Each L js → Each L (k ∷ img k ∷ js)
    two h = each_cons L (each_first L ls) (each_cons L (each_first (λ k. L (img k)) is) h)

    at : (m : Move) → ((w : P → ℕ) → Each L (met same img ks w)) → Each L (meeting m k (img k) (met same img ks (driven same m k (img k) v)))
    at skips go = go (driven same skips k (img k) v)
    at wins go = two (each_none L)
    at goes_on go = two (go (driven same goes_on k (img k) v))
    at drives_zero go = two (go (driven same drives_zero k (img k) v))
    at drives_one go = two (go (driven same drives_one k (img k) v))
    at loses go = two (each_none L)

-- ---- the literals

-- every literal of v's is false in v
pub literals_false : {P : Type 0} (v : P → ℕ) (js : List P) → Breaks (literals_of v js) v
unfolding literals_of literal_at pick
literals_false v [] = each_none (FalseIn v)
literals_false {P} v (j ∷ js) = at (eqb (v j) 1) (eqb (v j) 0) refl refl (literals_false v js)
  where
    at : (o z : Bool) → eqb (v j) 1 ≡ o → eqb (v j) 0 ≡ z → Breaks (literals_of v js) v
        → Breaks (pick o (absent j ∷ literals_of v js) (pick z (present j ∷ literals_of v js) (literals_of v js))) v
    at true z e d h = each_cons (FalseIn v) (eqb-true (v j) 1 e) h
    at false true e d h = each_cons (FalseIn v) (eqb-true (v j) 0 d) h
    at false false e d h = h
