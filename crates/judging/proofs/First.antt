-- Where the verdict is "smaller", the certificate given is the first in dictionary order, with its winning pair.
use Prim.Native.Nat.{ℕ}
use native.Mathlib.Omega.{arith}
use mathlib.Core.Path.{◌≡◌, refl, ap₂, subst}
use Rattle.graph.specs.declared.Graph.{Graph}
use Rattle.pairs.specs.Pairs.{Pair, pair}
use Rattle.judging.specs.declared.Verdict.TheVariants.{Smaller}
use Rattle.judging.specs.declared.Judged.{Judged}
use Rattle.judging.specs.Answer.{without, judge_answer}
use Rattle.judging.specs.Certificates.{FirstCertified}
use Rattle.judging.specs.InWords.{InWords, unknown_mode, malformed, cramped, cut_off, none_smaller, found_smaller, GivenSmaller}
use Rattle.judging.proofs.Exact.{judged_in_words}

-- it is a certificate, wins at that pair, and every other one comes after it
pub smaller_first : (mode : ℕ) (g : Graph) (budget room row column steps : ℕ) → (judge_answer mode g budget room).verdict ≡ Smaller row column steps
    → GivenSmaller mode g budget room row column steps (judge_answer mode g budget room)
unfolding without
smaller_first mode g budget room row column steps = at (judged_in_words mode g budget room)
  where
    at : {a : Judged} → InWords mode g budget room a → a.verdict ≡ Smaller row column steps → GivenSmaller mode g budget room row column steps a
    at (unknown_mode no_mode) e = let z : ◌≡◌ {A = ℕ} 0 1 = cc in absurd (omega arith)
    at (malformed m no_graph_lem) e = let z : ◌≡◌ {A = ℕ} 0 1 = cc in absurd (omega arith)
    at (cramped m w h) e = let z : ◌≡◌ {A = ℕ} 0 1 = cc in absurd (omega arith)
    at (cut_off t l) e = let z : ◌≡◌ {A = ℕ} 0 1 = cc in absurd (omega arith)
    at (none_smaller t l nowhere) e = let z : ◌≡◌ {A = ℕ} 0 1 = cc in absurd (omega arith)
    at (found_smaller t l {p} {k} f) e =
        let row_is : k.row ≡ row = cc in
        let column_is : k.column ≡ column = cc in
        record { taken = t; reach = l; count = cc; first = subst (λ (j : Pair). FirstCertified mode g p j) (ap₂ pair row_is column_is) f; literals = refl }
