-- The children of a list: which vertices they are, and that they stand by rising number.
use Prim.Native.Nat.{ℕ, suc, ◌≤◌}
use mathlib.Core.Path.{◌≡◌, refl, sym}
use mathlib.Core.Logic.{◌⊎◌, inl, inr}
use mathlib.Core.Bool.{Bool, true, false, not, false≢true}
use mathlib.Core.List.Memᴰ
use mathlib.Core.List.{List, [], ◌∷◌, Memᴰ}
use lib.ListN.{length}
use lib.Dec.{eqb}
use borrow.Author.Tests.{eqb-true, eqb-false, eq-eqb}
use Rattle.laws.specs.Test.{both}
use Rattle.laws.specs.Chosen.{chosen_fits, is_chosen, Ascending, chosen_ascend}
use Rattle.beginnings.specs.Beginning.{absent, may_follow, children}

-- ---- the test

-- an absent vertex is no member
pub absent_true : (b : List ℕ) (v : ℕ) → absent b v ≡ true → Memᴰ v b → ⊥
unfolding absent both
absent_true [] v e m = Memᴰ.not-nil m
absent_true (w ∷ b) v e m = go (eqb v w) refl e (Memᴰ.cases_cons m) (λ t k. absent_true b v t k)
  where
    go : (t : Bool) → eqb v w ≡ t → both (not t) (absent b v) ≡ true → (v ≡ w) ⊎ Memᴰ v b → (absent b v ≡ true → Memᴰ v b → ⊥) → ⊥
    go true q s k below = false≢true s
    go false q s (inl k) below = eqb-false v w q k
    go false q s (inr k) below = below s k

-- one that is not absent is a member
pub absent_false : (b : List ℕ) (v : ℕ) → absent b v ≡ false → Memᴰ v b
unfolding absent both
absent_false [] v e = absurd (false≢true (sym e))
absent_false (w ∷ b) v e = go (eqb v w) refl e (λ t. absent_false b v t)
  where
    go : (t : Bool) → eqb v w ≡ t → both (not t) (absent b v) ≡ false → (absent b v ≡ false → Memᴰ v b) → Memᴰ v (w ∷ b)
    go true q s below = Memᴰ.head (eqb-true v w q)
    go false q s below = Memᴰ.tail (below s)

module _ (block : ℕ → ℕ) (b : List ℕ) (v : ℕ) where
  -- what may follow is no member
  may_new : may_follow block b v ≡ true → Memᴰ v b → ⊥
  unfolding may_follow both
  may_new = go (absent b v) _ refl
    where
      go : (t u : Bool) → absent b v ≡ t → both t u ≡ true → Memᴰ v b → ⊥
      go true u q s m = absent_true b v q m
      go false u q s m = false≢true s

  -- and lies in the block of the next place
  may_block : may_follow block b v ≡ true → block v ≡ block (suc (length b))
  unfolding may_follow both
  may_block = go (absent b v)
    where
      go : (t : Bool) → both t (eqb (block v) (block (suc (length b)))) ≡ true → block v ≡ block (suc (length b))
      go true s = eqb-true (block v) (block (suc (length b))) s
      go false s = absurd (false≢true s)

  -- what is no member and lies in that block may follow
  may_follow_lem : (Memᴰ v b → ⊥) → block v ≡ block (suc (length b)) → may_follow block b v ≡ true
  unfolding may_follow both
  may_follow_lem new e = go (absent b v) refl
    where
      go : (t : Bool) → absent b v ≡ t → both t (eqb (block v) (block (suc (length b)))) ≡ true
      go true q = eq-eqb (block v) (block (suc (length b))) e
      go false q = absurd (new (absent_false b v q))

-- ---- the members

-- v may stand at the place after b: a vertex, unused, in that place's block
pub record Child (n : ℕ) (block : ℕ → ℕ) (b : List ℕ) (v : ℕ) : Type 0 where
  pub low : 1 ≤ v
  pub high : v ≤ n
  pub new : Memᴰ v b → ⊥
  pub in_block : block v ≡ block (suc (length b))

module _ (n : ℕ) (block : ℕ → ℕ) (b : List ℕ) (v : ℕ) where
  -- each member of the children is one
  pub child_of_mem : Memᴰ v (children n block b) → Child n block b v
  unfolding children
  child_of_mem m =
      let c = chosen_fits (may_follow block b) n v m in
      record { low = c.0; high = c.1; new = may_new block b v c.2; in_block = may_block block b v c.2 }

  -- and each such vertex is a member
  pub mem_of_child : Child n block b v → Memᴰ v (children n block b)
  unfolding children
  mem_of_child c = is_chosen (may_follow block b) n v c.low c.high (may_follow_lem block b v c.new c.in_block)

  -- a vertex of the next place's block is a child or is used
  pub child_or_used : 1 ≤ v → v ≤ n → block v ≡ block (suc (length b)) → Memᴰ v (children n block b) ⊎ Memᴰ v b
  child_or_used low high e = go (absent b v) refl
    where
      go : (t : Bool) → absent b v ≡ t → Memᴰ v (children n block b) ⊎ Memᴰ v b
      go true q = inl (mem_of_child (record { low = low; high = high; new = absent_true b v q; in_block = e }))
      go false q = inr (absent_false b v q)

-- ---- the order

-- the children stand by rising number
pub children_ascend : (n : ℕ) (block : ℕ → ℕ) (b : List ℕ) → Ascending (children n block b)
unfolding children
children_ascend n block b = chosen_ascend (may_follow block b) n
