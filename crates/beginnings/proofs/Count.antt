-- The trying of a list of beginnings under a budget: one turn at a time, and as a whole.
use Prim.Native.Nat.{ℕ, suc, ◌+◌, ◌≤◌, ◌<◌}
use native.Mathlib.Omega.{arith}
use native.Mathlib.Nat.{eq-or-lt_of_le}
use mathlib.Core.Path.{◌≡◌, refl, ◌∙◌, ap}
use mathlib.Core.Logic.{◌⊎◌, inl, inr, ◌≢◌, ⊎_elim}
use mathlib.Core.List.Memᴰ
use mathlib.Core.List.{List, [], ◌∷◌, ◌++◌, Memᴰ}
use lib.ListN.{length}
use borrow.Author.Tests.{lt-ltb, le-ltb}
use Rattle.laws.specs.Test.{pick}
use Rattle.beginnings.specs.Search.{Judgement, won, lost, «open», NoneWon, FirstWon, unless_won, through_won, cut, none, first, on_won, try_all}

module _ (judged : List ℕ → Judgement) where
  -- ---- one turn at a time

  -- with nothing left to try, the steps so far
  pub try_none : (steps budget : ℕ) → try_all judged [] steps budget ≡ none steps
  unfolding try_all
  try_none steps budget = refl

  -- with the budget used up and something left to try, cut
  pub try_cut : (b : List ℕ) (bs : List (List ℕ)) (steps budget : ℕ) → budget ≤ steps → try_all judged (b ∷ bs) steps budget ≡ cut
  unfolding try_all pick
  try_cut b bs steps budget h = rw (le-ltb steps budget h)

  -- a won one is found
  pub try_won : (b : List ℕ) (bs : List (List ℕ)) (steps budget : ℕ) → steps < budget → judged b ≡ won → try_all judged (b ∷ bs) steps budget ≡ first b (suc steps)
  unfolding try_all pick on_won
  try_won b bs steps budget h e = rw (lt-ltb steps budget h, e)

  -- past any other it goes on, a step later
  pub try_past : (b : List ℕ) (bs : List (List ℕ)) (steps budget : ℕ) → steps < budget → judged b ≢ won → try_all judged (b ∷ bs) steps budget ≡ try_all judged bs (suc steps) budget
  unfolding try_all pick on_won
  try_past b bs steps budget h ne = rw (lt-ltb steps budget h) (go (judged b) refl)
    where
      go : (j : Judgement) → judged b ≡ j → on_won j (first b (suc steps)) (try_all judged bs (suc steps) budget) ≡ try_all judged bs (suc steps) budget
      go won e = absurd (ne e)
      go lost e = refl
      go «open» e = refl

  -- ---- the first won one

  none_nil : NoneWon judged []
  none_nil b m = absurd (Memᴰ.not-nil m)

  none_cons : {b : List ℕ} {bs : List (List ℕ)} → judged b ≢ won → NoneWon judged bs → NoneWon judged (b ∷ bs)
  none_cons {b} {bs} ne rest c m = ⊎_elim (λ (e : c ≡ b). rw e ne) (λ (k : Memᴰ c bs). rest c k) (Memᴰ.cases_cons m)

  later : {b c : List ℕ} {bs : List (List ℕ)} → judged b ≢ won → FirstWon judged bs c → FirstWon judged (b ∷ bs) c
  later {b} {c} {bs} ne f = record { before = b ∷ f.before; after = f.after; split = ap (λ (l : List (List ℕ)). b ∷ l) f.split; none_before = none_cons ne f.none_before; wins = f.wins }

  -- won or not
  won_or_not : (b : List ℕ) → (judged b ≡ won) ⊎ (judged b ≢ won)
  won_or_not b = go (judged b) refl
    where
      go : (j : Judgement) → judged b ≡ j → (judged b ≡ won) ⊎ (judged b ≢ won)
      go won e = inl e
      go lost e = inr (λ q. let z : ◌≡◌ {A = ℕ} 0 1 = cc in omega arith)
      go «open» e = inr (λ q. let z : ◌≡◌ {A = ℕ} 0 1 = cc in omega arith)

  -- none of a list is won, or one is the first
  pub none_or_first : (bs : List (List ℕ)) → NoneWon judged bs ⊎ ((b : List ℕ) × FirstWon judged bs b)
  none_or_first [] = inl none_nil
  none_or_first (b ∷ bs) = go (won_or_not b) (none_or_first bs)
    where
      go : (judged b ≡ won) ⊎ (judged b ≢ won) → NoneWon judged bs ⊎ ((c : List ℕ) × FirstWon judged bs c) → NoneWon judged (b ∷ bs) ⊎ ((c : List ℕ) × FirstWon judged (b ∷ bs) c)
      go (inl e) rest = inr (b, record { before = []; after = bs; split = refl; none_before = none_nil; wins = e })
      go (inr ne) (inl rest) = inl (none_cons ne rest)
      go (inr ne) (inr rest) = inr (rest.0, later ne rest.1)

  -- ---- the list cut after it

  through_won_lem : (b : List ℕ) (bs : List (List ℕ)) → judged b ≡ won → through_won judged (b ∷ bs) ≡ b ∷ []
  unfolding through_won unless_won
  through_won_lem b bs e = rw e

  through_past : (b : List ℕ) (bs : List (List ℕ)) → judged b ≢ won → through_won judged (b ∷ bs) ≡ b ∷ through_won judged bs
  unfolding through_won unless_won
  through_past b bs ne = go (judged b) refl
    where
      go : (j : Judgement) → judged b ≡ j → b ∷ unless_won j (through_won judged bs) ≡ b ∷ through_won judged bs
      go won e = absurd (ne e)
      go lost e = refl
      go «open» e = refl

  -- one of a list is always tried
  pub through_some : (b : List ℕ) (bs : List (List ℕ)) → 1 ≤ length (through_won judged (b ∷ bs))
  unfolding through_won
  through_some b bs = omega arith

  -- where none is won it is the whole list
  pub through_none : (bs : List (List ℕ)) → NoneWon judged bs → through_won judged bs ≡ bs
  unfolding through_won
  through_none [] h = refl
  through_none (b ∷ bs) h = through_past b bs (h b (Memᴰ.head refl)) ∙ ap (λ (l : List (List ℕ)). b ∷ l) (through_none bs (λ c m. h c (Memᴰ.tail m)))

  -- else it ends with the first won one
  pub through_first : (before : List (List ℕ)) (b : List ℕ) (after : List (List ℕ)) → NoneWon judged before → judged b ≡ won → through_won judged (before ++ (b ∷ after)) ≡ before ++ (b ∷ [])
  through_first [] b after h e = through_won_lem b after e
  through_first (c ∷ before) b after h e = through_past c (before ++ (b ∷ after)) (h c (Memᴰ.head refl)) ∙ ap (λ (l : List (List ℕ)). c ∷ l) (through_first before b after (λ x m. h x (Memᴰ.tail m)) e)

  -- ---- the whole list

  -- where none is won and the budget reaches, all are counted
  pub try_all_lem : (bs : List (List ℕ)) (steps budget : ℕ) → NoneWon judged bs → steps + length bs ≤ budget → try_all judged bs steps budget ≡ none (steps + length bs)
  try_all_lem [] steps budget h l = let e : steps ≡ steps + 0 = omega arith in try_none steps budget ∙ ap none e
  try_all_lem (b ∷ bs) steps budget h l =
      let e : suc steps + length bs ≡ steps + suc (length bs) = omega arith in
      try_past b bs steps budget (omega arith) (h b (Memᴰ.head refl)) ∙ try_all_lem bs (suc steps) budget (λ c m. h c (Memᴰ.tail m)) (omega arith) ∙ ap none e

  -- where the budget reaches the first won one, that is found
  pub try_first : (before : List (List ℕ)) (b : List ℕ) (after : List (List ℕ)) (steps budget : ℕ) → NoneWon judged before → judged b ≡ won → steps + length before < budget → try_all judged (before ++ (b ∷ after)) steps budget ≡ first b (suc (steps + length before))
  try_first [] b after steps budget h w l = let e : steps ≡ steps + 0 = omega arith in try_won b after steps budget (omega arith) w ∙ ap (λ (s : ℕ). first b (suc s)) e
  try_first (c ∷ before) b after steps budget h w l =
      let e : suc steps + length before ≡ steps + suc (length before) = omega arith in
      try_past c (before ++ (b ∷ after)) steps budget (omega arith) (h c (Memᴰ.head refl)) ∙ try_first before b after (suc steps) budget (λ x m. h x (Memᴰ.tail m)) w (omega arith) ∙ ap (λ (s : ℕ). first b (suc s)) e

  -- where the budget falls short of what is needed, the search is cut
  pub try_short : (bs : List (List ℕ)) (steps budget : ℕ) → steps ≤ budget → budget < steps + length (through_won judged bs) → try_all judged bs steps budget ≡ cut
  try_short [] steps budget h l = absurd (omega (arith, ap length (through_none [] none_nil)))
  try_short (b ∷ bs) steps budget h l = go (eq-or-lt_of_le h) (won_or_not b) (λ k q. try_short bs (suc steps) budget k q)
    where
      go : (steps ≡ budget) ⊎ (steps < budget) → (judged b ≡ won) ⊎ (judged b ≢ won) → (suc steps ≤ budget → budget < suc steps + length (through_won judged bs) → try_all judged bs (suc steps) budget ≡ cut) → try_all judged (b ∷ bs) steps budget ≡ cut
      go (inl e) d below = try_cut b bs steps budget (omega arith)
      go (inr k) (inl e) below = absurd (omega (arith, ap length (through_won_lem b bs e)))
      go (inr k) (inr ne) below = try_past b bs steps budget k ne ∙ below k (omega (arith, ap length (through_past b bs ne)))
