-- Arrangements of 32 numbers and beginnings of length n are the same thing, with zeros after place n or without.
use Prim.Native.Nat.{ℕ, zero, suc, ◌+◌, ◌-◌, ◌≤◌, ◌<◌}
use native.Mathlib.Omega.{arith}
use mathlib.Core.Path.{◌≡◌, refl, sym, ap, subst, ◌∙◌}
use mathlib.Core.Logic.{inl, inr, ◌↔◌, ⊎_elim}
use mathlib.Core.Bool.{Bool, true}
use mathlib.Core.List.{List, [], ◌∷◌, ◌++◌}
use lib.ListN.{length, get_or, take, replicate, length-append, length-replicate, get_or-append, get_or-eq_default}
use lib.Seq.{get_or-append-add, get_or-take, length-take-le, take_at}
use lib.Dec.{eqb, ltb}
use borrow.Author.Tests.{eqb-true, lt-ltb, le-ltb}
use Rattle.laws.specs.Compared.{by_below}
use Rattle.laws.specs.Test.{both, either}
use Rattle.laws.specs.TestLaws.{both_first, both_second, both_hold, same_test, pick_true, pick_false, one_holds, either_first, either_second}
use Rattle.schemes.proofs.Judgements.{walk_alike}
use Rattle.schemes.specs.Judging.{Arranges}
use Rattle.plain.specs.Plain.{same_pair, pair_of_two}
use Rattle.plain.proofs.Plain.{two_rising, two_falling}
use Rattle.plain.proofs.Modes.{mode_lawful}
use Rattle.beginnings.specs.Beginning.{Beginning}
use Rattle.beginnings.specs.Order.{Before}
use Rattle.beginnings.proofs.Order.{before_irrefl}
use Rattle.graph.specs.declared.Graph.{Graph}
use Rattle.graph.specs.Graph.{entry}
use Rattle.rows.specs.Rows.{block_of}
use Rattle.graph.specs.WellFormed.{WellFormed}
use Rattle.arrangements.specs.Arrangement.{at, Permitted}
use Rattle.pairs.specs.Pairs.{Pair, pair}
use Rattle.graph.specs.Counts.{entry_at}
use Rattle.words.proofs.Placed.{same_places}
use Rattle.judging.specs.Judging.{walk_all, padded}

-- ---- zeros after the last place

-- zeros hold zero at every place, and past their end
zeros : (m i : ℕ) → get_or {A = ℕ} (replicate m 0) i 0 ≡ 0
zeros zero i = refl
zeros (suc m) zero = refl
zeros (suc m) (suc i) = zeros m i

-- each place holds what it held
pub padded_at : (b : List ℕ) (i : ℕ) → at (padded b) i ≡ at b i
unfolding padded
padded_at b i =
    by_below (i - 1) (length b) (λ (h : i - 1 < length b). get_or-append b (replicate (32 - length b) 0) 0 (i - 1) h)
    (λ (h : length b ≤ i - 1).
    let place : i - 1 ≡ length b + (i - 1 - length b) = omega arith in
    ap (λ (x : ℕ). get_or (b ++ replicate (32 - length b) 0) x 0) place
    ∙ get_or-append-add b (replicate (32 - length b) 0) (i - 1 - length b) 0 ∙ zeros (32 - length b) (i - 1 - length b)
    ∙ sym (get_or-eq_default b 0 h))

-- 32 numbers in all
pub padded_length : (b : List ℕ) → length b ≤ 32 → length (padded b) ≡ 32
unfolding padded
padded_length b h = length-append b (replicate (32 - length b) 0) ∙ omega (arith, length-replicate {A = ℕ} (32 - length b) 0)

-- the first n are the beginning that was padded
pub take_padded : (b : List ℕ) (n : ℕ) → length b ≡ n → take n (padded b) ≡ b
unfolding padded
take_padded b n e = take_at b (replicate (32 - length b) 0) n e

-- ---- dictionary order of lists that end alike

-- the starts of two of one length come in the order of the two
before_start : (a b z : List ℕ) → length a ≡ length b → Before (a ++ z) (b ++ z) → Before a b
before_start [] [] z e h = absurd (before_irrefl z h)
before_start [] (w ∷ b) z e h = absurd (omega arith)
before_start (v ∷ a) [] z e h = absurd (omega arith)
before_start (v ∷ a) (w ∷ b) z e (inl h) = inl h
before_start (v ∷ a) (w ∷ b) z e (inr h) = inr (h.0, before_start a b z (omega arith) h.1)

-- and the two in the order of their starts
before_longer : (a b z : List ℕ) → length a ≡ length b → Before a b → Before (a ++ z) (b ++ z)
before_longer [] [] z e h = absurd h
before_longer [] (w ∷ b) z e h = absurd (omega arith)
before_longer (v ∷ a) [] z e h = absurd (omega arith)
before_longer (v ∷ a) (w ∷ b) z e (inl h) = inl h
before_longer (v ∷ a) (w ∷ b) z e (inr h) = inr (h.0, before_longer a b z (omega arith) h.1)

-- ---- permitted arrangements and beginnings of length n

-- a permitted arrangement, whatever stands after its places
pub permitted_arranges : (n starts : ℕ) (p : List ℕ) → Permitted n starts p → Arranges n (block_of starts) p
permitted_arranges n starts p a =
    record { reorders = record { low = a.reordering.low; high = a.reordering.high; once = a.reordering.once }; in_block = a.in_block }

module _ (n starts : ℕ) (high : n ≤ 32) where
  module _ (p : List ℕ) (h : Permitted n starts p) where
    -- the first n places of a permitted arrangement
    pub permitted_length : length (take n p) ≡ n
    permitted_length = length-take-le n p (omega (arith, h.reordering.long))

    -- hold what they held
    pub permitted_at : (i : ℕ) → 1 ≤ i → i ≤ n → at (take n p) i ≡ at p i
    permitted_at i l m = get_or-take n p (i - 1) 0 (omega arith)

    -- and are a beginning
    pub permitted_beginning : 1 ≤ n → Beginning n (block_of starts) (take n p)
    permitted_beginning low =
        let long = permitted_length in
        record {
          begun = omega arith;
          fits = omega arith;
          low = λ i l m. rw (permitted_at i l (omega arith)) (h.reordering.low i l (omega arith));
          high = λ i l m. rw (permitted_at i l (omega arith)) (h.reordering.high i l (omega arith));
          once = λ i j l s m. rw (permitted_at i (omega arith) (omega arith), permitted_at j l (omega arith)) (h.reordering.once i j l s (omega arith));
          in_block = λ i l m. rw (permitted_at i l (omega arith)) (h.in_block i l (omega arith));
        }

    -- which, padded, is the arrangement
    pub permitted_padded : p ≡ padded (take n p)
    permitted_padded =
        same_places p (padded (take n p)) h.reordering.long (padded_length (take n p) (omega (arith, permitted_length)))
        (λ i l. sym (padded_at (take n p) i ∙ by_below n i (λ (m : n < i). get_or-eq_default (take n p) 0 (omega (arith, permitted_length)) ∙ sym (h.reordering.zeros i m)) (λ (m : i ≤ n). permitted_at i l m)))

  -- a beginning of length n, padded, is a permitted arrangement
  pub padded_permitted : (b : List ℕ) → Beginning n (block_of starts) b → length b ≡ n → Permitted n starts (padded b)
  padded_permitted b h long =
      record {
        reordering =
            record {
              long = padded_length b (omega arith);
              low = λ i l m. rw (padded_at b i) (h.low i l (omega arith));
              high = λ i l m. rw (padded_at b i) (h.high i l (omega arith));
              once = λ i j l s m. rw (padded_at b i, padded_at b j) (h.once i j l s (omega arith));
              zeros = λ i m. padded_at b i ∙ get_or-eq_default b 0 (omega arith);
            };
        in_block = λ i l m. rw (padded_at b i) (h.in_block i l (omega arith));
      }

  -- ---- dictionary order

  -- of two arrangements the one whose first n places come before comes before
  pub before_padded : (p q : List ℕ) → Permitted n starts p → Permitted n starts q → Before p q ↔ Before (take n p) (take n q)
  unfolding padded
  before_padded p q h k =
      let lp = permitted_length p h in
      let lq = permitted_length q k in
      let rest : 32 - length (take n p) ≡ 32 - length (take n q) = omega arith in
      let ep : p ≡ take n p ++ replicate (32 - length (take n q)) 0 = permitted_padded p h ∙ ap (λ (m : ℕ). take n p ++ replicate m 0) rest in
      let eq : q ≡ take n q ++ replicate (32 - length (take n q)) 0 = permitted_padded q k in (
        λ b. before_start (take n p) (take n q) (replicate (32 - length (take n q)) 0) (lp ∙ sym lq) (subst (λ (x : List ℕ). Before x (take n q ++ replicate (32 - length (take n q)) 0)) ep (subst (λ (x : List ℕ). Before p x) eq b)),
        λ b. subst (λ (x : List ℕ). Before p x) (sym eq) (subst (λ (x : List ℕ). Before x (take n q ++ replicate (32 - length (take n q)) 0)) (sym ep) (before_longer (take n p) (take n q) (replicate (32 - length (take n q)) 0) (lp ∙ sym lq) b)),
      )

-- ---- so both have one walk

-- the walk of a beginning doesn't change when it is padded
pub padded_walk : (mode : ℕ) (g : Graph) (b : List ℕ) → walk_all mode g (padded b) ≡ walk_all mode g b
padded_walk mode g b = walk_alike (mode_lawful mode g.order) (entry_at g) (padded b) b (λ i l h. padded_at b i)

-- ---- the entry at an image

-- g's entry at the pair of u and v is that at (u, v)
pub entry_of_two : (g : Graph) → WellFormed g → (u v : ℕ) → entry_at g (pair_of_two u v) ≡ entry g u v
entry_of_two g w u v =
    by_below u v (λ (h : u < v). ap (entry_at g) (two_rising u v h)) (λ (h : v ≤ u). ap (entry_at g) (two_falling u v h) ∙ w.symmetric v u)

-- the pair of u and v is (i, j) exactly where u and v are i and j, or j and i
pub two_are : (u v i j : ℕ) → i < j → same_pair (pair_of_two u v) (pair i j) ≡ either (both (eqb u i) (eqb v j)) (both (eqb u j) (eqb v i))
unfolding pair_of_two same_pair
two_are u v i j h = by_below u v rising falling
  where
    straight : Bool
    straight = both (eqb u i) (eqb v j)

    crossed : Bool
    crossed = both (eqb u j) (eqb v i)

    rising : u < v → same_pair (pair_of_two u v) (pair i j) ≡ either straight crossed
    rising l =
        ap (λ (k : Pair). same_pair k (pair i j)) (pick_true (ltb u v) (pair u v) (pair v u) (lt-ltb u v l))
        ∙ same_test straight (either straight crossed) (λ e. either_first straight crossed e)
        (λ e. ⊎_elim (λ (s : straight ≡ true). s)
        (λ (c : crossed ≡ true). absurd (omega (arith, eqb-true u j (both_first (eqb u j) (eqb v i) c), eqb-true v i (both_second (eqb u j) (eqb v i) c))))
        (one_holds straight crossed e))

    falling : v ≤ u → same_pair (pair_of_two u v) (pair i j) ≡ either straight crossed
    falling l =
        ap (λ (k : Pair). same_pair k (pair i j)) (pick_false (ltb u v) (pair u v) (pair v u) (le-ltb u v l))
        ∙ same_test (both (eqb v i) (eqb u j)) (either straight crossed)
        (λ e. either_second straight crossed (both_hold (eqb u j) (eqb v i) (both_second (eqb v i) (eqb u j) e) (both_first (eqb v i) (eqb u j) e)))
        (λ e. ⊎_elim (λ (s : straight ≡ true). absurd (omega (arith, eqb-true u i (both_first (eqb u i) (eqb v j) s), eqb-true v j (both_second (eqb u i) (eqb v j) s))))
        (λ (c : crossed ≡ true). both_hold (eqb v i) (eqb u j) (both_second (eqb u j) (eqb v i) c) (both_first (eqb u j) (eqb v i) c))
        (one_holds straight crossed e))
