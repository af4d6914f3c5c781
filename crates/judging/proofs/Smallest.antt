-- Smallest: on a fully drawn graph a permitted arrangement is a certificate exactly where the copy by it is strictly earlier, so "none" says
-- that no permitted renumbering comes earlier.
use Prim.Native.Nat.{ℕ, ◌≤◌}
use native.Mathlib.Omega.{arith}
use mathlib.Core.Path.{◌≡◌, refl, sym, subst}
use mathlib.Core.Logic.{◌↔◌}
use mathlib.Core.List.{List}
use Rattle.walk.specs.Earlier.{LexLess}
use Rattle.graph.specs.declared.Graph.{Graph}
use Rattle.graph.specs.Graph.{relabelled}
use Rattle.graph.specs.WellFormed.{WellFormed}
use Rattle.arrangements.specs.Arrangement.{Permitted}
use Rattle.pairs.specs.Pairs.{pair}
use Rattle.pairs.proofs.PairLaws.{pairs_has}
use Rattle.graph.proofs.Drawn.{same_graph}
use Rattle.judging.specs.Order.{EarlierGraph, word_in, FullyDrawn}
use Rattle.judging.specs.declared.Judged.{Judged}
use Rattle.judging.specs.Judging.{steps_for}
use Rattle.judging.specs.Answer.{told, without, judge_answer}
use Rattle.judging.specs.Certificates.{Completes, Certified}
use Rattle.judging.specs.InWords.{Taken, InWords, unknown_mode, malformed, cramped, cut_off, none_smaller, found_smaller}
use Rattle.judging.specs.Drawings.{EarlierCopy, Smallest}
use Rattle.judging.proofs.Exact.{judged_in_words, exact_none}
use Rattle.judging.proofs.Sound.{copy_published}

module _ (mode : ℕ) (g : Graph) (w : WellFormed g) (d : FullyDrawn g) where
  -- a fully drawn graph is its own full drawing
  own_drawing : Completes g g
  own_drawing = record { drawing = record { formed = w; full = d; order_is = refl; starts_are = refl }; agrees = λ k m l. refl }

  -- and the only one
  one_drawing : (h : Graph) → Completes g h → g ≡ h
  one_drawing h c =
      let f = c.drawing in
      same_graph g h w f.formed (sym f.order_is) (sym f.starts_are)
      (λ i j li l hj. sym (c.agrees (pair i j) (pairs_has g.order (pair i j) (record { from_low = li; rising = l; to_high = hj })) (d.known i j)))

  -- so a permitted arrangement is a certificate exactly where the copy by it is strictly earlier
  pub certified_earlier : (p : List ℕ) → Certified mode g p ↔ EarlierCopy mode g p
  certified_earlier p = (
    λ c. record { permitted = c.permitted; earlier = c.earlier g own_drawing },
    λ e. record { permitted = e.permitted; earlier = λ h c. subst (λ (x : Graph). EarlierGraph mode (relabelled x p) x) (one_drawing h c) e.earlier },
  )

  -- so what is told "none", whatever the room and the budget, has no permitted renumbering that comes earlier
  pub none_tells : (budget room : ℕ) → (told (judge_answer mode g budget room).verdict).kind ≡ 0 → Smallest mode g
  unfolding told without
  none_tells budget room = at (judged_in_words mode g budget room)
    where
      at : {a : Judged} → InWords mode g budget room a → (told a.verdict).kind ≡ 0 → Smallest mode g
      at (unknown_mode no_mode) e = absurd (omega arith)
      at (malformed m no_graph_lem) e = absurd (omega arith)
      at (cramped m v h) e = absurd (omega arith)
      at (cut_off t l) e = absurd (omega arith)
      at (none_smaller t l nowhere) e = λ p copy. nowhere p ((certified_earlier p).1 copy)
      at (found_smaller t l f) e = absurd (omega arith)

  -- in the published order of the mode too
  pub none_published : (budget room : ℕ) → (told (judge_answer mode g budget room).verdict).kind ≡ 0
      → (p : List ℕ) → Permitted g.order g.starts p → ¬ LexLess (word_in mode (relabelled g p)) (word_in mode g)
  none_published budget room e p a less = none_tells budget room e p (record { permitted = a; earlier = (copy_published mode g w d p).0 less })

  -- and past the checks, with budget enough, nothing else is told of such a graph
  pub none_smallest : (budget room : ℕ) → Taken mode g room → steps_for mode g ≤ budget → ((told (judge_answer mode g budget room).verdict).kind ≡ 0) ↔ Smallest mode g
  none_smallest budget room taken reach = (none_tells budget room, λ least. (exact_none mode g budget room taken reach).1 (λ p c. least p ((certified_earlier p).0 c)))
