-- No literal of a clause can be dropped; and the test of the pass that drops the others is the rules' own: whether the arrangement is a
-- certificate of the graph that knows only what the remaining literals say.
use Prim.Native.Nat.{ℕ, ◌≤◌}
use native.Mathlib.Omega.{arith}
use mathlib.Core.Path.{◌≡◌, refl, sym, ap, subst, ◌∙◌}
use mathlib.Core.Logic.{◌⊎◌, inl, inr, ◌↔◌, ◌≢◌}
use mathlib.Core.Bool.{Bool, true, false}
use mathlib.Core.List.{List, ◌∷◌, ◌++◌, map, Memᴰ}
use lib.IntN.{ℤ}
use lib.ListN.{length}
use Rattle.laws.specs.Each.{Each}
use Rattle.laws.specs.ListLaws.{mem_split}
use Rattle.laws.specs.Pigeonhole.{Injects}
use Rattle.laws.specs.Test.{pick}
use Rattle.laws.specs.TestLaws.{not_both_ways}
use Rattle.walk.specs.Walk.{won, walk}
use Rattle.walk.specs.Clause.{Literal, absent, present, pair_in, signed, among, Written, FalseIn, FalseAt, Breaks}
use Rattle.walk.specs.Earlier.{Earlier, copy}
use Rattle.walk.specs.Meaning.{Won}
use Rattle.walk.specs.Meeting.{listed, only}
use Rattle.walk.proofs.Broken.{signed_false}
use Rattle.walk.proofs.Clause.{among_listed, clause_written}
use Rattle.walk.proofs.Meaning.{Unbeaten}
use Rattle.walk.proofs.Meeting.{met_within, met_decides}
use Rattle.walk.proofs.Only.{listed_tells, only_listed}
use Rattle.walk.proofs.Order.{earlier_alike}
use Rattle.needed.specs.Enough.{enough}
use Rattle.needed.proofs.Enough.{false_known, enough_tells}
use Rattle.schemes.specs.Judging.{walk_of, written_by}
use Rattle.schemes.proofs.Images.{image_listed}
use Rattle.schemes.proofs.Meaning.{needed_false_in, needed_listed, needed_spares}
use Rattle.plain.specs.Plain.{same_pair, image, compared_in}
use Rattle.plain.proofs.Plain.{same_pair_tells}
use Rattle.plain.proofs.Modes.{mode_lawful, mode_numbered, numbered_compared}
use Rattle.graph.specs.declared.Graph.{Graph}
use Rattle.graph.specs.Graph.{relabelled}
use Rattle.graph.specs.Counts.{entry_at}
use Rattle.graph.specs.WellFormed.{WellFormed}
use Rattle.arrangements.specs.Arrangement.{at, Permitted}
use Rattle.pairs.specs.Pairs.{Pair, pairs, number_of}
use Rattle.judging.specs.Order.{EarlierGraph}
use Rattle.judging.specs.Judging.{walk_all, needed_of, clause_of}
use Rattle.judging.specs.Certificates.{Certified, said_at, KnowsOnly}
use Rattle.judging.specs.Answer.{judge_answer}
use Rattle.judging.specs.Drawings.{Needs, SaysSmaller, written}
use Rattle.judging.proofs.Arrangements.{permitted_arranges}
use Rattle.judging.proofs.Meaning.{copy_earlier, graph_with, with_order, with_starts, with_formed, with_entries, full_with, full_entries, full_with_lem, certified_won}
use Rattle.judging.proofs.Literals.{number_in_pairs}
use Rattle.judging.proofs.Sound.{smaller_certified, written_is}

-- ---- the test of the pass

-- what literals say that are false in a drawing is what it has at their pairs
module _ (v : Pair → ℕ) (lits : List (Literal Pair)) (b : Breaks lits v) (k : Pair) where
  said_is : said_at lits k ≡ only same_pair (map pair_in lits) v k
  unfolding said_at only pick
  said_is = at (among same_pair (absent k) lits) (among same_pair (present k) lits) (listed same_pair k (map pair_in lits)) refl refl refl
    where
      has : (l : Literal Pair) → pair_in l ≡ k → Memᴰ l lits → listed same_pair k (map pair_in lits) ≡ true
      has l e m = (listed_tells same_pair_tells k (map pair_in lits)).1 (subst (λ (j : Pair). Memᴰ j (map pair_in lits)) e (mathlib.Core.List.Memᴰ.map pair_in m))

      none : (l : Literal Pair) → Memᴰ l lits → pair_in l ≡ k → among same_pair (absent k) lits ≡ false → among same_pair (present k) lits ≡ false → ⊥
      none (absent j) m e a c = not_both_ways (among same_pair (absent k) lits) ((among_listed same_pair_tells (absent k) lits).1 (subst (λ (i : Pair). Memᴰ (absent i) lits) e m)) a
      none (present j) m e a c = not_both_ways (among same_pair (present k) lits) ((among_listed same_pair_tells (present k) lits).1 (subst (λ (i : Pair). Memᴰ (present i) lits) e m)) c

      at : (x y z : Bool) → among same_pair (absent k) lits ≡ x → among same_pair (present k) lits ≡ y → listed same_pair k (map pair_in lits) ≡ z → pick x 1 (pick y 0 2) ≡ pick z (v k) 2
      at true y z e f h =
          let m = (among_listed same_pair_tells (absent k) lits).0 e in
          rw (sym h ∙ has (absent k) refl m) (sym (b (absent k) m))
      at false true z e f h =
          let m = (among_listed same_pair_tells (present k) lits).0 f in
          rw (sym h ∙ has (present k) refl m) (sym (b (present k) m))
      at false false true e f h =
          let m = mathlib.Core.List.Memᴰ.of_map pair_in lits ((listed_tells same_pair_tells k (map pair_in lits)).0 h) in
          absurd (none m.0 m.1 m.2 e f)
      at false false false e f h = refl

-- an entry that literals say is 0, 1 or 2
said_small : (lits : List (Literal Pair)) (k : Pair) → said_at lits k ≤ 2
unfolding said_at pick
said_small lits k = at (among same_pair (absent k) lits) (among same_pair (present k) lits)
  where
    at : (x y : Bool) → pick x 1 (pick y 0 2) ≤ 2
    at true y = omega arith
    at false true = omega arith
    at false false = omega arith

-- there is the graph that knows only what the literals say
pub knows_only : (g : Graph) → WellFormed g → (lits : List (Literal Pair)) → (h : Graph) × KnowsOnly g lits h
knows_only g w lits =
    let small : Each (λ k. said_at lits k ≤ 2) (pairs g.order) = λ k m. said_small lits k in (
      graph_with g w (said_at lits) small,
      record {
        formed = with_formed g w (said_at lits) small;
        order_is = with_order g w (said_at lits) small;
        starts_are = with_starts g w (said_at lits) small;
        entries = with_entries g w (said_at lits) small;
      },
    )

module _ (mode : ℕ) (g : Graph) (p : List ℕ) (permitted : Permitted g.order g.starts p) where
  abbrev n : ℕ
  n = g.order

  closed : Each (λ k. Memᴰ (image p k) (compared_in mode g.order)) (compared_in mode g.order)
  closed = image_listed (mode_lawful mode n) p (permitted_arranges n g.starts p permitted).reorders

  -- the test holds exactly where p is a certificate of that graph, for literals that are false in g
  pub enough_certified : (lits : List (Literal Pair)) → Breaks lits (entry_at g) → (h : Graph) → KnowsOnly g lits h
      → (enough same_pair (image p) (compared_in mode g.order) (entry_at g) lits ≡ true) ↔ Certified mode h p
  unfolding walk_of
  enough_certified lits b h knows = (
    λ e. certified.1 (from_g (won_here.0 e)),
    λ c. won_here.1 (to_g (certified.0 c)),
  )
    where
      won_here : (enough same_pair (image p) (compared_in mode g.order) (entry_at g) lits ≡ true) ↔ Won same_pair (image p) (compared_in mode g.order) (only same_pair (map pair_in lits) (entry_at g))
      won_here = enough_tells same_pair_tells (λ k. Memᴰ k (compared_in mode n)) (image p) (compared_in mode n) (λ k m. m) closed (entry_at g) lits

      certified : Certified mode h p ↔ ((k : Pair) × (walk_all mode h p ≡ won k))
      certified = certified_won mode h knows.formed p (rw (knows.order_is, knows.starts_are) permitted)

      same_walk : walk same_pair (image p) (compared_in mode g.order) (only same_pair (map pair_in lits) (entry_at g)) ≡ walk same_pair (image p) (compared_in mode h.order) (entry_at h)
      same_walk =
          rw knows.order_is
          (met_decides same_pair_tells (image p) (compared_in mode n) (entry_at h) (only same_pair (map pair_in lits) (entry_at g))
          (λ k m. sym (said_is (entry_at g) lits b k) ∙ sym (knows.entries k (mode_numbered mode n k (met_within same_pair (image p) (λ j. Memᴰ j (compared_in mode n)) (compared_in mode n) (λ j i. i) closed (entry_at h) k m)))))

      from_g : Won same_pair (image p) (compared_in mode g.order) (only same_pair (map pair_in lits) (entry_at g)) → (k : Pair) × (walk_all mode h p ≡ won k)
      from_g w = (w.0, sym same_walk ∙ w.1)

      to_g : (k : Pair) × (walk_all mode h p ≡ won k) → Won same_pair (image p) (compared_in mode g.order) (only same_pair (map pair_in lits) (entry_at g))
      to_g w = (w.0, same_walk ∙ w.1)

-- ---- no literal can be dropped

module _ (mode : ℕ) (g : Graph) (w : WellFormed g) (p : List ℕ) (permitted : Permitted g.order g.starts p) (z : ℤ) (m : Memᴰ z (clause_of mode g p)) where
  injects : Injects g.order g.order (at p)
  injects = (permitted_arranges g.order g.starts p permitted).reorders

  -- what each number is written for
  written_for_lem : (y : ℤ) → Memᴰ y (clause_of mode g p) → Written (needed_of mode g p) (pairs g.order) y
  unfolding written_by
  written_for_lem y i = clause_written same_pair_tells (needed_of mode g p) (pairs g.order) y i

  abbrev l : Literal Pair
  l = (written_for_lem z m).literal

  splits : (xs : List (Literal Pair)) × (ys : List (Literal Pair)) × (needed_of mode g p ≡ xs ++ (written_for_lem z m).literal ∷ ys)
  splits = mem_split l (needed_of mode g p) (written_for_lem z m).listed

  abbrev others : List (Literal Pair)
  others = splits.0 ++ splits.1

  -- a drawing that breaks all others and whose copy is not earlier
  spared : Unbeaten (mode_lawful mode g.order).tells (λ k. Memᴰ k (compared_in mode g.order)) (image p) (compared_in mode g.order) (only same_pair (map pair_in others) (entry_at g))
  spared = needed_spares (mode_lawful mode g.order) (pairs g.order) (mode_numbered mode g.order) (entry_at g) p injects splits.0 l splits.1 splits.2

  abbrev H : Pair → ℕ
  H = spared.drawing

  -- another number is of another literal
  other : (y : ℤ) (i : Memᴰ y (clause_of mode g p)) → y ≢ z → Memᴰ (written_for_lem y i).literal others
  other y i ne = at (mathlib.Core.List.Memᴰ.append_cases splits.0 (subst (λ (xs : List (Literal Pair)). Memᴰ (written_for_lem y i).literal xs) splits.2 (written_for_lem y i).listed))
    where
      same_number : (written_for_lem y i).literal ≡ (written_for_lem z m).literal → y ≡ z
      same_number e =
          (written_for_lem y i).written ∙ ap (signed (written_for_lem y i).literal) (number_in_pairs g.order _ _ (written_for_lem y i).place)
          ∙ ap (λ (x : Literal Pair). signed x (number_of g.order (pair_in x))) e
          ∙ sym ((written_for_lem z m).written ∙ ap (signed l) (number_in_pairs g.order _ _ (written_for_lem z m).place))

      at : Memᴰ (written_for_lem y i).literal splits.0 ⊎ Memᴰ (written_for_lem y i).literal ((written_for_lem z m).literal ∷ splits.1) → Memᴰ (written_for_lem y i).literal others
      at (inl j) = mathlib.Core.List.Memᴰ.append_left splits.1 j
      at (inr j) = side (mathlib.Core.List.Memᴰ.cases_cons j)
        where
          side : ((written_for_lem y i).literal ≡ (written_for_lem z m).literal) ⊎ Memᴰ (written_for_lem y i).literal splits.1 → Memᴰ (written_for_lem y i).literal others
          side (inl e) = absurd (ne (same_number e))
          side (inr k) = mathlib.Core.List.Memᴰ.append_right splits.0 k

  pub clause_needed : Needs mode g p (clause_of mode g p) z
  clause_needed =
      record {
        drawing = h;
        full = full_with_lem g w H full;
        others_false = λ y i ne. broken y i ne;
        not_earlier = λ e. spared.stays (earlier_alike (compared_in mode g.order) (copy (image p) (entry_at h)) (entry_at h) (copy (image p) H) H (λ k i. sym (entries (image p k) (image_listed (mode_lawful mode g.order) p injects k i))) (λ k i. sym (entries k i)) (earlier e));
      }
    where
      full : Each (λ k. H k ≤ 1) (pairs g.order)
      full k i = spared.full k (numbered_compared mode g.order k i)

      h : Graph
      h = full_with g w H full

      entries : Each (λ k. entry_at h k ≡ H k) (compared_in mode g.order)
      entries k i = full_entries g w H full k (mode_numbered mode g.order k i)

      same_order : h.order ≡ g.order
      same_order = (full_with_lem g w H full).order_is

      earlier : EarlierGraph mode (relabelled h p) h → Earlier (compared_in mode g.order) (copy (image p) (entry_at h)) (entry_at h)
      earlier e = rw same_order at ((copy_earlier mode h (full_with_lem g w H full).formed p).1 e)

      broken : (y : ℤ) → Memᴰ y (clause_of mode g p) → y ≢ z → FalseAt (pairs g.order) (entry_at h) y
      broken y i ne =
          let x = written_for_lem y i in
          let there : Memᴰ (pair_in x.literal) (map pair_in others) = mathlib.Core.List.Memᴰ.map pair_in (other y i ne) in
          let false_in_g : FalseIn (entry_at g) x.literal = needed_false_in (mode_lawful mode g.order) (pairs g.order) (mode_numbered mode g.order) (entry_at g) p injects x.literal x.listed in
          let inside : Memᴰ (pair_in x.literal) (compared_in mode g.order) = needed_listed (mode_lawful mode g.order) (pairs g.order) (mode_numbered mode g.order) (entry_at g) p injects x.literal x.listed in
          let same : only same_pair (map pair_in others) (entry_at g) (pair_in x.literal) ≡ entry_at g (pair_in x.literal) = only_listed same_pair_tells (map pair_in others) (entry_at g) (pair_in x.literal) there in
          let known : only same_pair (map pair_in others) (entry_at g) (pair_in x.literal) ≤ 1 = rw same (false_known (entry_at g) x.literal false_in_g) in
          let as_g : entry_at h (pair_in x.literal) ≡ entry_at g (pair_in x.literal) = entries (pair_in x.literal) inside ∙ spared.extends (pair_in x.literal) inside known ∙ same in
          rw x.written ((signed_false (pairs g.order) (entry_at h) x.literal x.number x.place).0 (false_as x.literal as_g false_in_g))
        where
          false_as : (x : Literal Pair) → entry_at h (pair_in x) ≡ entry_at g (pair_in x) → FalseIn (entry_at g) x → FalseIn (entry_at h) x
          false_as (absent j) e f = e ∙ f
          false_as (present j) e f = e ∙ f

-- ---- what judging writes

-- no number that it writes can be dropped
pub written_needed : (mode : ℕ) (g : Graph) (budget : ℕ) (buffer : List ℤ) → SaysSmaller mode g budget buffer
    → Each (Needs mode g (judge_answer mode g budget (length buffer)).arrangement (written mode g budget buffer)) (written mode g budget buffer)
written_needed mode g budget buffer says =
    let c = smaller_certified mode g budget (length buffer) says in
    subst (λ (zs : List ℤ). Each (Needs mode g (judge_answer mode g budget (length buffer)).arrangement zs) zs) (sym (written_is mode g budget buffer says))
    (λ z m. clause_needed mode g c.0 (judge_answer mode g budget (length buffer)).arrangement c.1.permitted z m)
