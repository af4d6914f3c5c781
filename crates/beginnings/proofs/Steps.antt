-- The count of steps: within the budget the search finds what there is, with the steps needed; short of it, it is cut.
use Prim.Native.Nat.{ℕ, suc, ◌+◌, ◌-◌, ◌≤◌, ◌<◌}
use native.Mathlib.Omega.{arith}
use native.Mathlib.Decide.{dec_le}
use mathlib.Core.Path.{◌≡◌, ◌∙◌, ap}
use mathlib.Core.Logic.{◌⊎◌, inl, inr, ◌≢◌, ◌↔◌, ⊎_elim}
use mathlib.Core.List.{List, [], ◌∷◌, ◌++◌}
use lib.ListN.{length, length-append}
use Rattle.beginnings.specs.Search.{Judgement, NoneWon, FirstWon, through_won, subtrees, reached, needed, steps_needed, cut, none, first, told, searched}
use Rattle.beginnings.proofs.Completed.{first_exists}
use Rattle.beginnings.proofs.Subtree.{subtrees_more, subtree_root}
use Rattle.beginnings.proofs.Count.{none_or_first, through_none, through_first, try_all_lem, try_first, try_short, through_some}

module _ (n : ℕ) (block : ℕ → ℕ) (judged : List ℕ → Judgement) where
  -- ---- the two answers, and the cut

  -- where none is won, all reached ones are needed
  needed_none : NoneWon judged (reached n block judged) → needed n block judged ≡ reached n block judged
  unfolding needed
  needed_none h = through_none judged (reached n block judged) h

  -- else those up to the first won one
  needed_first : (b : List ℕ) (f : FirstWon judged (reached n block judged) b) → needed n block judged ≡ f.before ++ (b ∷ [])
  unfolding needed
  needed_first b f = ap (through_won judged) f.split ∙ through_first judged f.before b f.after f.none_before f.wins

  -- none is won: none, with the steps needed
  pub within_none : (budget : ℕ) → NoneWon judged (reached n block judged) → steps_needed n block judged ≤ budget → searched n block judged budget ≡ none (steps_needed n block judged)
  unfolding searched
  within_none budget h l =
      let same = ap length (needed_none h) in
      let e : 0 + length (reached n block judged) ≡ steps_needed n block judged = omega (arith, same) in
      try_all_lem judged (reached n block judged) 0 budget h (omega (arith, same)) ∙ ap none e

  -- b is the first won one: b, with the steps needed
  pub within_first : (budget : ℕ) (b : List ℕ) → FirstWon judged (reached n block judged) b → steps_needed n block judged ≤ budget → searched n block judged budget ≡ first b (steps_needed n block judged)
  unfolding searched
  within_first budget b f l =
      let e : suc (0 + length f.before) ≡ steps_needed n block judged = omega (arith, ap length (needed_first b f), length-append f.before (b ∷ [])) in
      rw f.split (try_first judged f.before b f.after 0 budget f.none_before f.wins (omega (arith, e)) ∙ ap (first b) e)

  -- too small a budget: cut
  pub short : (budget : ℕ) → budget < steps_needed n block judged → searched n block judged budget ≡ cut
  unfolding searched needed
  short budget h = try_short judged (reached n block judged) 0 budget (omega arith) (omega arith)

  -- ---- what they say together

  -- within the budget the answer is one of the two, by whether a reached one is won
  abbrev Answer : ℕ → Type 0
  Answer budget =
      (NoneWon judged (reached n block judged) × (searched n block judged budget ≡ none (steps_needed n block judged)))
      ⊎ ((b : List ℕ) × FirstWon judged (reached n block judged) b × (searched n block judged budget ≡ first b (steps_needed n block judged)))

  answer : (budget : ℕ) → steps_needed n block judged ≤ budget → Answer budget
  answer budget l =
      ⊎_elim (λ (h : NoneWon judged (reached n block judged)). inl (h, within_none budget h l))
      (λ (h : (b : List ℕ) × FirstWon judged (reached n block judged) b). inr (h.0, h.1, within_first budget h.0 h.1 l))
      (none_or_first judged (reached n block judged))

  -- such an answer is no cut, and it tells the steps needed
  pub within : (budget : ℕ) → steps_needed n block judged ≤ budget → (searched n block judged budget ≢ cut) × (told budget (searched n block judged budget) ≡ steps_needed n block judged)
  unfolding told
  within budget l = go (answer budget l)
    where
      go : Answer budget → (searched n block judged budget ≢ cut) × (told budget (searched n block judged budget) ≡ steps_needed n block judged)
      go (inl h) = (λ q. let z : ◌≡◌ {A = ℕ} 0 1 = cc (q, h.1) in omega arith, ap (told budget) h.1)
      go (inr h) = (λ q. let z : ◌≡◌ {A = ℕ} 0 1 = cc (q, h.2) in omega arith, ap (told budget) h.2)

  -- ---- read off the answer

  -- the search is cut exactly where the budget falls short
  pub cut_exactly : (budget : ℕ) → (searched n block judged budget ≡ cut) ↔ (budget < steps_needed n block judged)
  cut_exactly budget = (go (dec_le (steps_needed n block judged) budget), short budget)
    where
      go : Dec (steps_needed n block judged ≤ budget) → searched n block judged budget ≡ cut → budget < steps_needed n block judged
      go (yes l) q = absurd ((within budget l).0 q)
      go (no l) q = omega arith

  -- an answer that is no cut came within the budget
  reached_it : (budget : ℕ) → searched n block judged budget ≢ cut → steps_needed n block judged ≤ budget
  reached_it budget h = go (dec_le (steps_needed n block judged) budget)
    where
      go : Dec (steps_needed n block judged ≤ budget) → steps_needed n block judged ≤ budget
      go (yes l) = l
      go (no l) = absurd (h (short budget (omega arith)))

  -- none, with s steps: exactly where the budget reaches, s is the steps needed, and none is won
  pub none_exactly : (budget s : ℕ) → (searched n block judged budget ≡ none s) ↔ ((steps_needed n block judged ≤ budget) × (s ≡ steps_needed n block judged) × NoneWon judged (reached n block judged))
  none_exactly budget s = (λ q. let l = reached_it budget (λ k. let z : ◌≡◌ {A = ℕ} 0 1 = cc in omega arith) in go q l (answer budget l), λ h. rw h.1 (within_none budget h.2 h.0))
    where
      go : searched n block judged budget ≡ none s → steps_needed n block judged ≤ budget → Answer budget → (steps_needed n block judged ≤ budget) × (s ≡ steps_needed n block judged) × NoneWon judged (reached n block judged)
      go q l (inl h) = (l, cc (q, h.1), h.0)
      go q l (inr h) = let z : ◌≡◌ {A = ℕ} 0 1 = cc (q, h.2) in absurd (omega arith)

  -- b, with s steps: exactly where the budget reaches, s is the steps needed, and b is the first won one
  pub first_exactly : (budget : ℕ) (b : List ℕ) (s : ℕ) → (searched n block judged budget ≡ first b s) ↔ ((steps_needed n block judged ≤ budget) × (s ≡ steps_needed n block judged) × FirstWon judged (reached n block judged) b)
  first_exactly budget b s = (λ q. let l = reached_it budget (λ k. let z : ◌≡◌ {A = ℕ} 0 1 = cc in omega arith) in go q l (answer budget l), λ h. rw h.1 (within_first budget b h.2 h.0))
    where
      go : searched n block judged budget ≡ first b s → steps_needed n block judged ≤ budget → Answer budget → (steps_needed n block judged ≤ budget) × (s ≡ steps_needed n block judged) × FirstWon judged (reached n block judged) b
      go q l (inl h) = let z : ◌≡◌ {A = ℕ} 0 1 = cc (q, h.1) in absurd (omega arith)
      go q l (inr h) = let e : h.0 ≡ b = cc (q, h.2) in (l, cc (q, h.2), rw e at h.1)

  -- ---- a budget of 0

  -- some beginning is reached
  pub reached_some : 1 ≤ n → (b : List ℕ) × (bs : List (List ℕ)) × (reached n block judged ≡ b ∷ bs)
  unfolding reached
  reached_some h =
      let c = first_exists n block h in
      let r = subtree_root n block judged (n - 1) (c.0 ∷ []) in
      (c.0 ∷ [], r.0 ++ subtrees n block judged (n - 1) [] c.1, rw (c.2, subtrees_more n block judged (n - 1) [] c.0 c.1, r.1))

  -- so a budget of 0 is always cut
  pub zero_cut : 1 ≤ n → searched n block judged 0 ≡ cut
  unfolding needed
  zero_cut h = let r = reached_some h in short 0 (rw r.2 (through_some judged r.0 r.1))
