-- What an answer changes of the arrangement that was lent: "smaller" writes, and nothing else does.
use Prim.Native.Nat.{ℕ}
use native.Mathlib.Omega.{arith}
use mathlib.Core.Path.{◌≡◌, refl}
use mathlib.Core.Logic.{◌≢◌}
use mathlib.Core.List.{List}
use lib.ListN.{length}
use Rattle.graph.specs.declared.Graph.{Graph}
use Rattle.judging.specs.declared.Verdict.{Verdict}
use Rattle.judging.specs.declared.Verdict.TheVariants.{Smaller, Nothing, Cut, Refused}
use Rattle.judging.specs.declared.Judged.{Judged}
use Rattle.judging.specs.Answer.{told, without, judge_answer}
use Rattle.judging.specs.InWords.{InWords, unknown_mode, malformed, cramped, cut_off, none_smaller, found_smaller}
use Rattle.judging.proofs.Exact.{judged_in_words}
use Rattle.packing.specs.Telling.{arranged_by, arranged_after}

-- by the verdict
by_else : (v : Verdict) (p lent : List ℕ) → (told v).kind ≢ 1 → arranged_by v p lent ≡ lent
unfolding told arranged_by
by_else (Smaller row column steps) p lent ne = absurd (ne refl)
by_else (Nothing steps) p lent ne = refl
by_else (Cut steps) p lent ne = refl
by_else (Refused number place) p lent ne = refl

-- the other way
by_smaller : (v : Verdict) (p lent : List ℕ) → (told v).kind ≡ 1 → arranged_by v p lent ≡ p
unfolding told arranged_by
by_smaller (Smaller row column steps) p lent e = refl
by_smaller (Nothing steps) p lent e = absurd (omega arith)
by_smaller (Cut steps) p lent e = absurd (omega arith)
by_smaller (Refused number place) p lent e = absurd (omega arith)

-- without "smaller" the arrangement is as it was
pub arrangement_unchanged : (a : Judged) (lent : List ℕ) → (told a.verdict).kind ≢ 1 → arranged_after a lent ≡ lent
unfolding arranged_after
arrangement_unchanged a lent ne = by_else a.verdict a.arrangement lent ne

-- with it, the certificate
pub arrangement_written : (a : Judged) (lent : List ℕ) → (told a.verdict).kind ≡ 1 → arranged_after a lent ≡ a.arrangement
unfolding arranged_after
arrangement_written a lent e = by_smaller a.verdict a.arrangement lent e

-- which is 32 numbers
pub arrangement_whole : (mode : ℕ) (g : Graph) (budget room : ℕ) → length (judge_answer mode g budget room).arrangement ≡ 32
unfolding without
arrangement_whole mode g budget room = at (judged_in_words mode g budget room)
  where
    at : {a : Judged} → InWords mode g budget room a → length a.arrangement ≡ 32
    at (unknown_mode no_mode) = refl
    at (malformed m no_graph_lem) = refl
    at (cramped m w h) = refl
    at (cut_off t l) = refl
    at (none_smaller t l nowhere) = refl
    at (found_smaller t l f) = f.certified.permitted.reordering.long
