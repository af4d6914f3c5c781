-- Literals, the clause that they make by rising number, and what breaks them.
use Rattle.std.specs.Prelude.{ℕ, suc, ◌<◌, ◌≡◌, Bool, true, false, ℤ, pos, negsuc, neg_ℤ, nat_abs, length}
use mathlib.Core.List.{List, [], ◌∷◌, ◌++◌, Memᴰ}
use Rattle.laws.specs.Test.{either}
use Rattle.laws.specs.Each.{Each}

-- "not k", and k
pub data Literal (P : Type 0) : Type 0 where
  absent : P → Literal P
  present : P → Literal P

-- ---- numbers

-- the pair of a literal
abbrev pub pair_in : {P : Type 0} → Literal P → P
pair_in (absent k) = k
pair_in (present k) = k

-- what is written for a literal whose pair has number m: negative for "not"
abbrev pub signed : {P : Type 0} → Literal P → ℕ → ℤ
signed (absent k) m = neg_ℤ (pos m)
signed (present k) m = pos m

-- k has number m in ks, counted from 1
pub record Numbered {P : Type 0} (ks : List P) (k : P) (m : ℕ) : Type 0 where
  pub before : List P
  pub after : List P
  pub split : ks ≡ before ++ k ∷ after
  pub count : m ≡ suc (length before)

module _ {P : Type 0} (same : P → P → Bool) where
  unfoldable pub same_literal : Literal P → Literal P → Bool
  same_literal (absent j) (absent k) = same j k
  same_literal (absent j) (present k) = false
  same_literal (present j) (absent k) = false
  same_literal (present j) (present k) = same j k

  -- the literal is among those listed
  unfoldable pub among : Literal P → List (Literal P) → Bool
  among l [] = false
  among l (x ∷ xs) = let rest = among l xs in either (same_literal l x) rest

-- a pair's number m before those of the pairs after it: negative where "not" the pair is a literal, else m where the pair is one
unfoldable pub numbered : (is_absent is_present : Bool) → ℕ → List ℤ → List ℤ
numbered true is_present m rest = neg_ℤ (pos m) ∷ rest
numbered false true m rest = pos m ∷ rest
numbered false false m rest = rest

module _ {P : Type 0} (same : P → P → Bool) (lits : List (Literal P)) where
  -- the clause from the pairs ks on, where i pairs come before them
  unfoldable pub clause_after : ℕ → List P → List ℤ
  clause_after i [] = []
  clause_after i (k ∷ ks) =
      let rest = clause_after (suc i) ks in
      numbered (among same (absent k) lits) (among same (present k) lits) (suc i) rest

  -- the clause, in one pass over the pairs
  unfoldable pub clause : List P → List ℤ
  clause ks = clause_after 0 ks

-- z is the number, with its sign, of one of the literals, whose pair is in ks
pub record Written {P : Type 0} (lits : List (Literal P)) (ks : List P) (z : ℤ) : Type 0 where
  pub literal : Literal P
  pub listed : Memᴰ literal lits
  pub number : ℕ
  pub place : Numbered ks (pair_in literal) number
  pub written : z ≡ signed literal number

-- absolute values rise strictly, and the first is above m
unfoldable pub RisingAbove : ℕ → List ℤ → Type 0
RisingAbove m [] = Unit {0}
RisingAbove m (z ∷ zs) = (m < nat_abs z) × RisingAbove (nat_abs z) zs

-- ---- what breaks a clause

-- the literal is false in H
abbrev pub FalseIn : {P : Type 0} → (P → ℕ) → Literal P → Type 0
FalseIn H (absent k) = H k ≡ 1
FalseIn H (present k) = H k ≡ 0

-- every literal is false in H
abbrev pub Breaks : {P : Type 0} → List (Literal P) → (P → ℕ) → Type 0
Breaks lits H = Each (FalseIn H) lits

-- the written number is false in H
abbrev pub FalseAt : {P : Type 0} → List P → (P → ℕ) → ℤ → Type 0
FalseAt {P} ks H (pos m) = (k : P) → Numbered ks k m → H k ≡ 0
FalseAt {P} ks H (negsuc m) = (k : P) → Numbered ks k (suc m) → H k ≡ 1

-- every written number is false in H
abbrev pub BreaksClause : {P : Type 0} → List P → List ℤ → (P → ℕ) → Type 0
BreaksClause ks numbers H = Each (FalseAt ks H) numbers

-- no pair is a literal with and without "not"
abbrev pub Consistent : {P : Type 0} → List (Literal P) → Type 0
Consistent {P} lits = (k : P) → Memᴰ (absent k) lits → Memᴰ (present k) lits → ⊥
