-- A judgement in each of its cases, as the code tells it.
use Prim.Native.Nat.{ℕ, ◌<◌}
use native.Mathlib.Omega.{arith}
use mathlib.Core.Path.{◌≡◌, ap, ◌∙◌}
use mathlib.Core.Logic.{◌≢◌}
use mathlib.Core.List.{List}
use Rattle.laws.specs.Test.{pick}
use Rattle.graph.specs.declared.Graph.{Graph}
use Rattle.judging.specs.declared.Verdict.TheVariants.{Smaller, Nothing, Cut, Refused}
use Rattle.judging.specs.declared.Judged.{Judged}
use Rattle.judging.specs.Answer.{told, judge_answer}
use Rattle.judging.proofs.Buffer.{zeros_beside}
use Rattle.packing.specs.Packing.{fields, refusal, code_told, low_told, packed}
use Rattle.packing.specs.Telling.{Judgement, arranged_by, arranged_after}
use Rattle.packing.proofs.Bounds.{Bounded, judged_bounded}

-- what judging a graph value answers is a judgement
pub is_judgement : (mode : ℕ) (g : Graph) (budget room : ℕ) (a : Judged) → a ≡ judge_answer mode g budget room → Judgement a
is_judgement mode g budget room a e = record { mode = mode; graph = g; budget = budget; room = room; is_answer = e }

module _ (a : Judged) (j : Judgement a) where
  -- what is told is bounded
  bounded : Bounded j.budget a
  bounded = rw j.is_answer (judged_bounded j.mode j.graph j.budget j.room)

  -- without "smaller" no literal is written
  none_written : (told a.verdict).kind ≢ 1 → a.literals ≡ 0
  none_written ne = ap (λ (x : Judged). x.literals) j.is_answer ∙ (zeros_beside j.mode j.graph j.budget j.room (rw j.is_answer at ne)).1

  -- how many are written fits 9 bits
  pub literals_fit : a.literals < 512
  literals_fit = omega (arith, bounded)

  module _ (row column steps : ℕ) (v : a.verdict ≡ Smaller row column steps) where
    -- smaller: the pair is small
    pub smaller_row : row < 64
    unfolding told
    smaller_row = omega (arith, rw v at bounded.row_small)

    -- in its column too
    pub smaller_column : column < 64
    unfolding told
    smaller_column = omega (arith, rw v at bounded.column_small)

    -- the number with the pair, the steps and the literals
    pub smaller_packed : (x : ℕ) → x ≡ fields steps row column a.literals 1 → x ≡ packed a
    unfolding packed told code_told low_told pick
    smaller_packed x e = rw (e, v)

    -- and the certificate in the lent arrangement
    pub smaller_arranged : (lent : List ℕ) → a.arrangement ≡ arranged_after a lent
    unfolding arranged_after arranged_by
    smaller_arranged lent = rw v

  module _ (steps : ℕ) (v : a.verdict ≡ Nothing steps) where
    -- none: the number with the steps
    pub none_packed : (x : ℕ) → x ≡ fields steps 0 0 0 0 → x ≡ packed a
    unfolding packed told code_told low_told pick
    none_packed x e =
        let z : a.literals ≡ 0 = none_written (rw v (λ q. omega arith)) in
        rw (e, v, z)

    -- and the arrangement as it was
    pub none_arranged : (lent : List ℕ) → lent ≡ arranged_after a lent
    unfolding arranged_after arranged_by
    none_arranged lent = rw v

  module _ (steps : ℕ) (v : a.verdict ≡ Cut steps) where
    -- cut: the number with the budget
    pub cut_packed : (x : ℕ) → x ≡ fields steps 0 0 0 2 → x ≡ packed a
    unfolding packed told code_told low_told pick
    cut_packed x e =
        let z : a.literals ≡ 0 = none_written (rw v (λ q. omega arith)) in
        rw (e, v, z)

    -- and the arrangement as it was
    pub cut_arranged : (lent : List ℕ) → lent ≡ arranged_after a lent
    unfolding arranged_after arranged_by
    cut_arranged lent = rw v

  module _ (number place : ℕ) (v : a.verdict ≡ Refused number place) where
    -- refused: by a small number
    pub refusal_number : number < 128
    unfolding told
    refusal_number = omega (arith, rw v at bounded.refusal_small)

    -- the number with the refusal and its place
    pub refusal_packed : (x : ℕ) → x ≡ refusal number place → x ≡ packed a
    unfolding packed told code_told low_told pick refusal
    refusal_packed x e =
        let z : a.literals ≡ 0 = none_written (rw v (λ q. omega arith)) in
        rw (e, v, z)

    -- and the arrangement as it was
    pub refusal_arranged : (lent : List ℕ) → lent ≡ arranged_after a lent
    unfolding arranged_after arranged_by
    refusal_arranged lent = rw v
