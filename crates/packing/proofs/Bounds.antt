-- What judging tells fits the places that it has in an answer.
use Prim.Native.Nat.{ℕ, ◌+◌, ◌≤◌, ◌<◌, ◌^◌}
use native.Mathlib.Omega.{arith}
use mathlib.Core.Path.{◌≡◌, refl}
use mathlib.Core.Bool.{Bool, true, false}
use borrow.Author.Tests.{leb-true}
use lib.Dec.{eqb, leb}
use Rattle.laws.specs.Test.{pick}
use Rattle.graph.specs.declared.Graph.{Graph}
use Rattle.pairs.specs.Pairs.{pair_count}
use Rattle.pairs.proofs.PairLaws.{pair_count_mono}
use Rattle.judging.specs.declared.Judged.{Judged}
use Rattle.judging.specs.Answer.{told, without, judge_answer}
use Rattle.judging.specs.InWords.{InWords, unknown_mode, malformed, cramped, cut_off, none_smaller, found_smaller}
use Rattle.judging.proofs.Exact.{judged_in_words}
use Rattle.judging.proofs.Buffer.{clause_fits}
use Rattle.judging.proofs.Literals.{winning_between}
use Rattle.packing.specs.Packing.{place_told, code_told, low_told}
use Rattle.packing.proofs.Fields.{Fitting}

-- ---- places

-- a place as it is told takes 32 bits
pub place_fits_lem : (place : ℕ) → place_told place < 2 ^ 32
unfolding place_told pick
place_fits_lem place = go (leb place 4294967295) refl
  where
    go : (t : Bool) → leb place 4294967295 ≡ t → pick t place 4294967295 < 2 ^ 32
    go true e = omega (arith, leb-true place 4294967295 e)
    go false e = omega arith

-- ---- judgements

-- what judging tells within a budget
pub record Bounded (budget : ℕ) (a : Judged) : Type 0 where
  pub row_small : (told a.verdict).row ≤ 32
  pub column_small : (told a.verdict).column ≤ 32
  pub literals_few : a.literals ≤ 496
  pub kind_small : (told a.verdict).kind ≤ 3
  pub refusal_small : (told a.verdict).refusal ≤ 16
  pub steps_within : (told a.verdict).steps ≤ budget
  pub place_small : (told a.verdict).place ≤ 496

-- judging a graph value stays within these
pub judged_bounded : (mode : ℕ) (g : Graph) (budget room : ℕ) → Bounded budget (judge_answer mode g budget room)
unfolding told without
judged_bounded mode g budget room = at (judged_in_words mode g budget room)
  where
    at : {a : Judged} → InWords mode g budget room a → Bounded budget a
    at (unknown_mode no_mode) = omega arith
    at (malformed m no_graph_lem) = omega arith
    at (cramped m w h) = omega arith
    at (cut_off t l) = omega arith
    at (none_smaller t l nowhere) = omega arith
    at (found_smaller t l {p} {k} f) =
        let b = winning_between mode g p k f.wins in
        let few = clause_fits mode g p in
        let most : pair_count g.order ≤ 496 = pair_count_mono g.order 32 t.formed.order_high in
        record {
          row_small = omega arith;
          column_small = omega arith;
          literals_few = omega arith;
          kind_small = omega arith;
          refusal_small = omega arith;
          steps_within = l;
          place_small = omega arith;
        }

-- ---- the fields of a judgement

module _ (budget : ℕ) (a : Judged) (b : Bounded budget a) (h : budget < 2 ^ 32) where
  -- the steps or the place take 32 bits
  low_told_fits : low_told (told a.verdict) < 2 ^ 32
  unfolding low_told pick
  low_told_fits = go (eqb (told a.verdict).kind 3)
    where
      go : (t : Bool) → pick t (place_told (told a.verdict).place) (told a.verdict).steps < 2 ^ 32
      go true = place_fits_lem (told a.verdict).place
      go false = omega arith

  -- the code 8
  code_told_fits : code_told (told a.verdict) < 2 ^ 8
  unfolding code_told pick
  code_told_fits = go (eqb (told a.verdict).kind 3)
    where
      go : (t : Bool) → pick t (128 + (told a.verdict).refusal) (told a.verdict).kind < 2 ^ 8
      go true = omega arith
      go false = omega arith

  -- and every field fits its place
  pub judged_fits : Fitting (low_told (told a.verdict)) (told a.verdict).row (told a.verdict).column a.literals (code_told (told a.verdict))
  judged_fits = omega (arith, low_told_fits, code_told_fits)
