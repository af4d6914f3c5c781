-- The clause as written: each literal stands in it once, by its number and sign, by rising number, and nothing else does.
use Prim.Native.Nat.{ℕ, suc, ◌+◌}
use native.Mathlib.Nat.{add-zero}
use native.Mathlib.Omega.{arith}
use mathlib.Core.Path.{◌≡◌, refl, sym, ap}
use mathlib.Core.Logic.{◌↔◌, ◌⊎◌, inl, inr}
use mathlib.Core.Bool.{Bool, true, false, false≢true}
use mathlib.Core.List.Memᴰ
use mathlib.Core.List.{List, [], ◌∷◌, ◌++◌, Memᴰ}
use lib.IntN.{ℤ, pos}
use lib.ListN.{length}
use Rattle.laws.specs.Test.{either}
use Rattle.laws.specs.Each.{Each}
use Rattle.walk.specs.Walk.{Tells}
use Rattle.walk.specs.Clause.{Literal, absent, present, pair_in, signed, Numbered, same_literal, among, numbered, clause_after, clause, Consistent, Written}
use Rattle.laws.specs.TestLaws.{either_second}

module _ {P : Type 0} {same : P → P → Bool} (tells : Tells same) where
  literal_tells : Tells (same_literal same)
  unfolding same_literal
  literal_tells = record { equal = equal; itself = itself }
    where
      equal : (l x : Literal P) → same_literal same l x ≡ true → l ≡ x
      equal (absent j) (absent k) e = ap absent (tells.equal j k e)
      equal (absent j) (present k) e = absurd (false≢true e)
      equal (present j) (absent k) e = absurd (false≢true e)
      equal (present j) (present k) e = ap present (tells.equal j k e)

      itself : (l : Literal P) → same_literal same l l ≡ true
      itself (absent k) = tells.itself k
      itself (present k) = tells.itself k

  -- the test tells whether a literal is listed
  pub among_listed : (l : Literal P) (lits : List (Literal P)) → (among same l lits ≡ true) ↔ Memᴰ l lits
  unfolding among either
  among_listed l [] = (λ e. absurd (false≢true e), λ m. elim m [ ])
  among_listed l (x ∷ lits) =
      (to (same_literal same l x) refl (among_listed l lits).0, λ m. from (among_listed l lits).1 (Memᴰ.cases_cons m))
    where
      to : (t : Bool) → same_literal same l x ≡ t → (among same l lits ≡ true → Memᴰ l lits)
          → either t (among same l lits) ≡ true → Memᴰ l (x ∷ lits)
      to true e f h = Memᴰ.head (literal_tells.equal l x e)
      to false e f h = Memᴰ.tail (f h)

      from : (Memᴰ l lits → among same l lits ≡ true) → (l ≡ x) ⊎ Memᴰ l lits
          → either (same_literal same l x) (among same l lits) ≡ true
      from f (inl e) = rw (← e, literal_tells.itself l)
      from f (inr m) = either_second (same_literal same l x) (among same l lits) (f m)

  module _ (lits : List (Literal P)) where
    -- ---- each literal stands in the clause

    -- what is written for the pairs after k is written still with k in front
    after_more : {z : ℤ} (a p : Bool) (m : ℕ) (rest : List ℤ) → Memᴰ z rest → Memᴰ z (numbered a p m rest)
    unfolding numbered
    after_more true p m rest h = Memᴰ.tail h
    after_more false true m rest h = Memᴰ.tail h
    after_more false false m rest h = h

    stands_first : (l : Literal P) (m : ℕ) (rest : List ℤ) → Consistent lits → Memᴰ l lits
        → Memᴰ (signed l m) (numbered (among same (absent (pair_in l)) lits) (among same (present (pair_in l)) lits) m rest)
    unfolding numbered
    stands_first (absent k) m rest c h = rw ((among_listed (absent k) lits).1 h) (Memᴰ.head refl)
    stands_first (present k) m rest c h = at (among same (absent k) lits) refl
      where
        at : (t : Bool) → among same (absent k) lits ≡ t → Memᴰ (pos m) (numbered t (among same (present k) lits) m rest)
        at true e = absurd (c k ((among_listed (absent k) lits).0 e) h)
        at false e = rw ((among_listed (present k) lits).1 h) (Memᴰ.head refl)

    stands_at : (l : Literal P) → Consistent lits → Memᴰ l lits → (i : ℕ) (before after : List P)
        → Memᴰ (signed l (suc (i + length before))) (clause_after same lits i (before ++ pair_in l ∷ after))
    unfolding clause_after
    stands_at l c h i [] after = rw add-zero (stands_first l (suc i) (clause_after same lits (suc i) after) c h)
    stands_at l c h i (j ∷ before) after =
        let number : i + length (j ∷ before) ≡ suc i + length before = omega arith in
        rw number
        (
        after_more (among same (absent j) lits) (among same (present j) lits) (suc i)
        (clause_after same lits (suc i) (before ++ pair_in l ∷ after))
        (stands_at l c h (suc i) before after)
        )

    -- a literal whose pair has a number stands in the clause, by that number with its sign
    pub literal_stands : (ks : List P) (l : Literal P) (m : ℕ) → Consistent lits → Memᴰ l lits → Numbered ks (pair_in l) m
        → Memᴰ (signed l m) (clause same lits ks)
    unfolding clause
    literal_stands ks l m c h at =
        let number : m ≡ suc (0 + length at.before) = omega (arith, at.count) in
        rw (at.split, number) (stands_at l c h 0 at.before at.after)

    -- ---- and nothing else does

    -- z is written for a literal of lits whose pair is in ks, where i pairs come before ks
    record WrittenAfter (i : ℕ) (ks : List P) (z : ℤ) : Type 0 where
      literal : Literal P
      listed : Memᴰ literal lits
      before : List P
      after : List P
      split : ks ≡ before ++ pair_in literal ∷ after
      written : z ≡ signed literal (suc (i + length before))

    written_after : (i : ℕ) (ks : List P) (z : ℤ) → Memᴰ z (clause_after same lits i ks) → WrittenAfter i ks z
    unfolding clause_after numbered
    written_after i [] z h = elim h [ ]
    written_after i (k ∷ ks) z h =
        at (among same (absent k) lits) (among same (present k) lits) refl refl (λ m. later (written_after (suc i) ks z m)) h
      where
        here : (l : Literal P) → Memᴰ l lits → pair_in l ≡ k → z ≡ signed l (suc i) → WrittenAfter i (k ∷ ks) z
        here l m p e =
            record {
              literal = l;
              listed = m;
              before = [];
              after = ks;
              split = ap (λ j. j ∷ ks) (sym p);
              written = rw add-zero e;
            }

        later : WrittenAfter (suc i) ks z → WrittenAfter i (k ∷ ks) z
        later w =
            let number : suc i + length w.before ≡ i + length (k ∷ w.before) = omega arith in
            record {
              literal = w.literal;
              listed = w.listed;
              before = k ∷ w.before;
              after = w.after;
              split = ap (λ l. k ∷ l) w.split;
              written = rw number at w.written;
            }

        first_or : (l : Literal P) → Memᴰ l lits → pair_in l ≡ k
            → (Memᴰ z (clause_after same lits (suc i) ks) → WrittenAfter i (k ∷ ks) z)
            → (z ≡ signed l (suc i)) ⊎ Memᴰ z (clause_after same lits (suc i) ks) → WrittenAfter i (k ∷ ks) z
        first_or l m p f (inl e) = here l m p e
        first_or l m p f (inr n) = f n

        at : (a p : Bool) → among same (absent k) lits ≡ a → among same (present k) lits ≡ p
            → (Memᴰ z (clause_after same lits (suc i) ks) → WrittenAfter i (k ∷ ks) z)
            → Memᴰ z (numbered a p (suc i) (clause_after same lits (suc i) ks)) → WrittenAfter i (k ∷ ks) z
        at true p ea ep f m = first_or (absent k) ((among_listed (absent k) lits).0 ea) refl f (Memᴰ.cases_cons m)
        at false true ea ep f m = first_or (present k) ((among_listed (present k) lits).0 ep) refl f (Memᴰ.cases_cons m)
        at false false ea ep f m = f m

    -- each number of the clause is that of a literal
    pub clause_written : (ks : List P) → Each (Written lits ks) (clause same lits ks)
    unfolding clause
    clause_written ks z h =
        let w : WrittenAfter 0 ks z = written_after 0 ks z h in
        let number : suc (0 + length w.before) ≡ suc (length w.before) = omega arith in
        record {
          literal = w.literal;
          listed = w.listed;
          number = suc (length w.before);
          place = record { before = w.before; after = w.after; split = w.split; count = refl };
          written = rw number at w.written;
        }
