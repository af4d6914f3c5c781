-- The definitions computed at small orders.
use Prim.Native.Nat.{ℕ}
use mathlib.Core.Path.{◌≡◌, refl}
use mathlib.Core.List.{List, [], ◌∷◌, flat_map}
use lib.Dec.{eqb}
use Rattle.laws.specs.Test.{both, pick}
use Rattle.laws.specs.Chosen.{chosen_up_to}
use Rattle.beginnings.specs.Beginning.{absent, may_follow, children}
use Rattle.beginnings.specs.Search.{Judgement, won, «open», where_open, subtree, subtrees, reached, cut, none, first, on_won, try_all, searched}
use Rattle.beginnings.specs.Certificate.{with_first, completed}

all_open : List ℕ → Judgement
all_open b = «open»

one_block : ℕ → ℕ
one_block v = 1

-- order 3 in one block: 3 + 6 + 6 beginnings
fifteen : searched 3 one_block all_open 15 ≡ none 15
unfolding all_open one_block absent may_follow chosen_up_to children both pick flat_map where_open subtree subtrees reached on_won try_all searched
fifteen = refl

-- one less is cut
fourteen : searched 3 one_block all_open 14 ≡ cut
unfolding all_open one_block absent may_follow chosen_up_to children both pick flat_map where_open subtree subtrees reached on_won try_all searched
fourteen = refl

-- three blocks leave one beginning of each length
three : searched 3 (λ v. v) all_open 15 ≡ none 3
unfolding all_open absent may_follow chosen_up_to children both pick flat_map where_open subtree subtrees reached on_won try_all searched
three = refl

-- won at 1, 3 alone: it is the fourth beginning, after 1 and 1, 2 and 1, 2, 3
at_one_three : List ℕ → Judgement
at_one_three [] = «open»
at_one_three (v ∷ []) = «open»
at_one_three (v ∷ w ∷ []) = pick (both (eqb v 1) (eqb w 3)) won «open»
at_one_three (v ∷ w ∷ x ∷ b) = «open»

fourth : searched 3 one_block at_one_three 4 ≡ first (1 ∷ 3 ∷ []) 4
unfolding at_one_three one_block absent may_follow chosen_up_to children both pick flat_map where_open subtree subtrees reached on_won try_all searched
fourth = refl

-- and 1, 3, 2 completes it
filled : completed 3 one_block 1 (1 ∷ 3 ∷ []) ≡ 1 ∷ 3 ∷ 2 ∷ []
unfolding one_block absent may_follow chosen_up_to children both pick with_first completed
filled = refl
