-- The reached beginnings, the steps needed and the search under a budget.
use Rattle.std.specs.Prelude.{ℕ, zero, suc, ◌-◌, ◌≤◌, ◌<◌, ◌≡◌, ◌≢◌, length, take, ltb}
use mathlib.Core.List.{List, [], ◌∷◌, ◌++◌, flat_map, Memᴰ}
use Rattle.laws.specs.Test.{pick}
use Rattle.beginnings.specs.Beginning.{Beginning, children}

-- how a beginning is judged
pub data Judgement : Type 0 where
  won : Judgement
  lost : Judgement
  «open» : Judgement

-- a beginning all of whose shorter beginnings are open
pub record IsReached (n : ℕ) (block : ℕ → ℕ) (judged : List ℕ → Judgement) (b : List ℕ) : Type 0 where
  pub beginning : Beginning n block b
  pub shorter_open : (m : ℕ) → 1 ≤ m → m < length b → judged (take m b) ≡ «open»

-- ---- the list of them, as a search meets them

-- the list where the judgement is open, else nothing
unfoldable pub where_open : Judgement → List (List ℕ) → List (List ℕ)
where_open won bs = []
where_open lost bs = []
where_open «open» bs = bs

module _ (n : ℕ) (block : ℕ → ℕ) (judged : List ℕ → Judgement) where
  -- b, then, where it is open and leaves places, the subtrees of b with each child; left is n less b's length
  unfoldable pub subtree : ℕ → List ℕ → List (List ℕ)
  subtree zero b = b ∷ []
  subtree (suc left) b =
      let below = flat_map (λ v. subtree left (b ++ (v ∷ []))) (children n block b) in
      b ∷ where_open (judged b) below

  -- the subtrees of b with each of the vertices vs
  unfoldable pub subtrees : ℕ → List ℕ → List ℕ → List (List ℕ)
  subtrees left b vs = flat_map (λ v. subtree left (b ++ (v ∷ []))) vs

  -- the reached beginnings: the subtrees of those of one vertex
  unfoldable pub reached : List (List ℕ)
  reached = subtrees (n - 1) [] (children n block [])

-- ---- the count

-- none of the list is won
abbrev pub NoneWon : (List ℕ → Judgement) → List (List ℕ) → Type 0
NoneWon judged bs = (b : List ℕ) → Memᴰ b bs → judged b ≢ won

-- b is the first won one of the list
pub record FirstWon (judged : List ℕ → Judgement) (bs : List (List ℕ)) (b : List ℕ) : Type 0 where
  pub before : List (List ℕ)
  pub after : List (List ℕ)
  pub split : bs ≡ before ++ (b ∷ after)
  pub none_before : NoneWon judged before
  pub wins : judged b ≡ won

-- nothing where the judgement is won, else the list
unfoldable pub unless_won : Judgement → List (List ℕ) → List (List ℕ)
unless_won won bs = []
unless_won lost bs = bs
unless_won «open» bs = bs

-- the list, cut after the first won one
unfoldable pub through_won : (List ℕ → Judgement) → List (List ℕ) → List (List ℕ)
through_won judged [] = []
through_won judged (b ∷ bs) =
    let rest = through_won judged bs in
    b ∷ unless_won (judged b) rest

-- what the search finds: cut by its budget; no won beginning, with the steps; the first won one, with the steps
pub data Found : Type 0 where
  cut : Found
  none : ℕ → Found
  first : List ℕ → ℕ → Found

-- the won beginning where the judgement is won, else what is found later
unfoldable pub on_won : Judgement → Found → Found → Found
on_won won found later = found
on_won lost found later = later
on_won «open» found later = later

-- tries bs one by one after so many steps, each a step more, up to the first won one or the budget
unfoldable pub try_all : (List ℕ → Judgement) → List (List ℕ) → ℕ → ℕ → Found
try_all judged [] steps budget = none steps
try_all judged (b ∷ bs) steps budget =
    let later = try_all judged bs (suc steps) budget in
    let tried = on_won (judged b) (first b (suc steps)) later in
    pick (ltb steps budget) tried cut

-- the number of steps told: on a cut it is the budget
unfoldable pub told : ℕ → Found → ℕ
told budget cut = budget
told budget (none steps) = steps
told budget (first b steps) = steps

module _ (n : ℕ) (block : ℕ → ℕ) (judged : List ℕ → Judgement) where
  -- the beginnings that a search has to try
  unfoldable pub needed : List (List ℕ)
  needed = through_won judged (reached n block judged)

  -- the steps needed
  abbrev pub steps_needed : ℕ
  steps_needed = length needed

  -- what a search finds within the budget
  unfoldable pub searched : ℕ → Found
  searched budget = try_all judged (reached n block judged) 0 budget
