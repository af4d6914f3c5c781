-- The clause of a certificate: the literals met are those of the rules, those of the clause are some of them, all are false in the graph, and
-- they are written once each, by rising pair number.
use Prim.Native.Nat.{ℕ, ◌≤◌, ◌<◌}
use native.Mathlib.Omega.{arith}
use mathlib.Core.Path.{◌≡◌, refl, sym, ap, ◌∙◌}
use mathlib.Core.Logic.{◌⊎◌, inl, inr, ◌↔◌}
use mathlib.Core.Bool.{true}
use mathlib.Core.List.{List, [], ◌∷◌, ◌++◌, map, Memᴰ}
use lib.IntN.{ℤ, nat_abs}
use Rattle.laws.specs.Each.{Each, each_none, each_cons}
use Rattle.laws.specs.ListLaws.{NoRepeats}
use Rattle.laws.specs.Pigeonhole.{Injects}
use Rattle.walk.specs.Walk.{won}
use Rattle.walk.specs.Meeting.{met}
use Rattle.walk.specs.Clause.{Literal, pair_in, signed, Numbered, RisingAbove, FalseIn}
use Rattle.walk.proofs.Meeting.{won_meets, MetIn, with_images_lem, met_within}
use Rattle.needed.proofs.Enough.{literals_exactly}
use Rattle.walk.proofs.Clause.{clause_written}
use Rattle.walk.proofs.Rising.{clause_rising, clause_bounded}
use Rattle.schemes.specs.Judging.{walk_of, literals_by, written_by}
use Rattle.schemes.proofs.Images.{image_listed}
use Rattle.schemes.proofs.Meaning.{needed_false_in, needed_literals, written_breaks}
use Rattle.plain.specs.Plain.{same_pair, image, compared_in}
use Rattle.plain.specs.Before.{before_in}
use Rattle.plain.proofs.Plain.{same_pair_tells}
use Rattle.plain.proofs.Modes.{mode_lawful, mode_ordered, mode_given, mode_has, mode_numbered}
use Rattle.graph.specs.declared.Graph.{Graph}
use Rattle.arrangements.specs.Arrangement.{at, Reordering}
use Rattle.pairs.specs.Pairs.{Pair, Between, pairs, pair_count, number_of}
use Rattle.graph.specs.Counts.{entry_at}
use Rattle.pairs.proofs.PairLaws.{pairs_length, split_number}
use Rattle.judging.specs.Judging.{walk_all, literals_of, needed_of, clause_of}
use Rattle.judging.specs.Certificates.{UpTo, MetUpTo, in_place, as_image}
use Rattle.judging.specs.Drawings.{BrokenBy}

-- ---- false in the graph, rising, each pair once

-- all literals are false in the graph
pub clause_false : (mode : ℕ) (g : Graph) (p : List ℕ) → Reordering g.order p → BrokenBy mode g p g
clause_false mode g p r =
    let injects : Injects g.order g.order (at p) = record { low = r.low; high = r.high; once = r.once } in
    (written_breaks (mode_lawful mode g.order) (pairs g.order) (mode_numbered mode g.order) (entry_at g) p injects (entry_at g)).0
    (needed_false_in (mode_lawful mode g.order) (pairs g.order) (mode_numbered mode g.order) (entry_at g) p injects)

-- they are written by rising pair number
pub clause_rises : (mode : ℕ) (g : Graph) (p : List ℕ) → RisingAbove 0 (clause_of mode g p)
unfolding written_by
clause_rises mode g p = clause_rising same_pair (needed_of mode g p) (pairs g.order)

-- numbers that rise above m are above m
rising_above : (m : ℕ) (zs : List ℤ) → RisingAbove m zs → Each (λ x. m < x) (map nat_abs zs)
unfolding RisingAbove
rising_above m [] r = each_none (λ x. m < x)
rising_above m (z ∷ zs) r = each_cons (λ x. m < x) r.0 (λ x h. omega (arith, r.0, rising_above (nat_abs z) zs r.1 x h))

-- and no two are the same
rising_once : (m : ℕ) (zs : List ℤ) → RisingAbove m zs → NoRepeats (map nat_abs zs)
unfolding RisingAbove NoRepeats
rising_once m [] r = tt
rising_once m (z ∷ zs) r =
    (λ h. omega (arith, rising_above (nat_abs z) zs r.1 (nat_abs z) h), rising_once (nat_abs z) zs r.1)

-- each pair stands in the clause at most once, with or without "not"
pub clause_once : (mode : ℕ) (g : Graph) (p : List ℕ) → NoRepeats (map nat_abs (clause_of mode g p))
clause_once mode g p = rising_once 0 (clause_of mode g p) (clause_rises mode g p)

-- each number is from 1 to n(n - 1)/2
pub clause_numbers : (mode : ℕ) (g : Graph) (p : List ℕ) → Each (λ z. (1 ≤ nat_abs z) × (nat_abs z ≤ pair_count g.order)) (clause_of mode g p)
unfolding written_by
clause_numbers mode g p z h = (
  rising_above 0 (clause_of mode g p) (clause_rises mode g p) (nat_abs z) (mathlib.Core.List.Memᴰ.map nat_abs h),
  rw (pairs_length g.order) at (clause_bounded same_pair (needed_of mode g p) (pairs g.order) z h),
)

-- ---- pairs up to a pair

-- the pairs compared before k, and k, are those up to it
pub up_to_lem : (mode n : ℕ) (k : Pair) (before after : List Pair) → compared_in mode n ≡ before ++ k ∷ after → (j : Pair) → Memᴰ j (before ++ k ∷ []) ↔ UpTo mode n j k
up_to_lem mode n k before after split j = (λ m. given (mathlib.Core.List.Memᴰ.append_cases before m), λ u. has u u.at_most)
  where
    inside : Memᴰ j (before ++ k ∷ after) → Between 1 n j
    inside m = mode_given mode n j (rw split m)

    earlier : Memᴰ j (compared_in mode n) → (before_in mode j k ≡ true) ↔ Memᴰ j before
    earlier = (mode_ordered mode n).precedes before k after split j

    given : Memᴰ j before ⊎ Memᴰ j (k ∷ []) → UpTo mode n j k
    given (inl m) =
        let i : Memᴰ j (before ++ k ∷ after) = mathlib.Core.List.Memᴰ.append_left (k ∷ after) m in
        record { between = inside i; at_most = inr ((earlier (rw split i)).1 m) }
    given (inr m) = let e : j ≡ k = mathlib.Core.List.Memᴰ.eq_of_singleton m in record { between = inside (rw e (mathlib.Core.List.Memᴰ.append_right before (mathlib.Core.List.Memᴰ.head refl))); at_most = inl e }

    has : UpTo mode n j k → (j ≡ k) ⊎ (before_in mode j k ≡ true) → Memᴰ j (before ++ k ∷ [])
    has u (inl e) = mathlib.Core.List.Memᴰ.append_right before (mathlib.Core.List.Memᴰ.head e)
    has u (inr t) = mathlib.Core.List.Memᴰ.append_left (k ∷ []) ((earlier (mode_has mode n j u.between)).0 t)

-- a pair's number in the list of pairs is the rules'
pub number_in_pairs : (n : ℕ) (k : Pair) (m : ℕ) → Numbered (pairs n) k m → m ≡ number_of n k
number_in_pairs n k m a = a.count ∙ sym (split_number n k a.before a.after a.split)

-- ---- which literals

module _ (mode : ℕ) (g : Graph) (p : List ℕ) (k : Pair) (wins : walk_all mode g p ≡ won k) where
  abbrev n : ℕ
  n = g.order

  -- the winning pair is one of 1..n
  pub winning_between : Between 1 g.order k
  unfolding walk_of
  winning_between =
      let u = won_meets same_pair_tells (image p) (compared_in mode n) (entry_at g) k wins in
      mode_given mode n k (rw u.split (mathlib.Core.List.Memᴰ.append_right u.before (mathlib.Core.List.Memᴰ.head refl)))

  -- the pairs that the walk meets
  abbrev pub met_by : List Pair
  met_by = met same_pair (image p) (compared_in mode g.order) (entry_at g)

  -- the pairs met are those of the rules
  pub met_in_words : (j : Pair) → Memᴰ j met_by ↔ MetUpTo mode g p k j
  unfolding walk_of
  met_in_words j =
      let u = won_meets same_pair_tells (image p) (compared_in mode n) (entry_at g) k wins in
      let are = with_images_lem same_pair_tells (image p) (u.before ++ k ∷ []) j in
      let few = up_to_lem mode n k u.before u.after u.split in
      (λ m. said few (are.0 (rw u.pairs at m)), λ s. rw u.pairs (are.1 (back few s)))
    where
      said : {xs : List Pair} → ((i : Pair) → Memᴰ i xs ↔ UpTo mode g.order i k)
          → MetIn (image p) xs j → MetUpTo mode g p k j
      said few h = at h.3
        where
          at : (j ≡ h.0) ⊎ (j ≡ image p h.0) → MetUpTo mode g p k j
          at (inl e) = in_place ((few j).0 (rw e h.1)) (rw e h.2)
          at (inr e) = as_image h.0 ((few h.0).0 h.1) h.2 e

      back : {xs : List Pair} → ((i : Pair) → Memᴰ i xs ↔ UpTo mode g.order i k) → MetUpTo mode g p k j
          → MetIn (image p) xs j
      back few (in_place u moved) = (j, (few j).1 u, moved, inl refl)
      back few (as_image i u moved e) = (i, (few i).1 u, moved, inr e)

  module _ (r : Reordering g.order p) where
    injects : Injects g.order g.order (at p)
    injects = record { low = r.low; high = r.high; once = r.once }

    -- the literals met are those of every entry that was met and is known in the graph itself, "not" where it is 1
    pub literals_said : (l : Literal Pair) → Memᴰ l (literals_of mode g p) ↔ (MetUpTo mode g p k (pair_in l) × FalseIn (entry_at g) l)
    unfolding literals_by
    literals_said l =
        let are = literals_exactly same_pair_tells (entry_at g) (image p) (compared_in mode n) (pairs n) l in
        let inside = met_within same_pair (image p) (λ j. Memᴰ j (compared_in mode n)) (compared_in mode n) (λ j m. m) (image_listed (mode_lawful mode n) p injects) (entry_at g) in (
          λ m. ((met_in_words (pair_in l)).0 (are.0 m).1, (are.0 m).2),
          λ h. let m = (met_in_words (pair_in l)).1 h.0 in are.1 (mode_numbered mode n (pair_in l) (inside (pair_in l) m), m, h.1),
        )

    -- and each number of the clause is that of one of them
    pub clause_met : Each (λ z. (l : Literal Pair) × Memᴰ l (literals_of mode g p) × (z ≡ signed l (number_of g.order (pair_in l)))) (clause_of mode g p)
    unfolding written_by
    clause_met z m =
        let w = clause_written same_pair_tells (needed_of mode g p) (pairs n) z m in (
          w.literal,
          needed_literals (mode_lawful mode n) (pairs n) (mode_numbered mode n) (entry_at g) p injects w.literal w.listed,
          w.written ∙ ap (signed w.literal) (number_in_pairs n (pair_in w.literal) w.number w.place),
        )
