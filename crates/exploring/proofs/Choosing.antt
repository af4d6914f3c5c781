-- The lowest untried vertex is chosen: where it stands in what is left, and the beginning that it makes.
use Prim.Native.Nat.{ℕ, suc, ◌+◌, ◌-◌, ◌^◌, ◌≤◌, ◌<◌}
use native.Mathlib.Omega.{arith}
use mathlib.Core.Path.{◌≡◌, refl, sym, ap, subst, ◌∙◌}
use mathlib.Core.Logic.{◌≢◌}
use mathlib.Core.List.{List, [], ◌∷◌, ◌++◌, Memᴰ}
use lib.Count.{count_trailing_zeros}
use lib.ListN.{length, take}
use Rattle.laws.specs.Masks.{members, not_empty, lowest_below, lowest_within, lowest_first, rest_below}
use Rattle.beginnings.specs.Search.{cut, try_all}
use Rattle.beginnings.specs.Search
use Rattle.beginnings.specs.Remaining.{remaining}
use Rattle.beginnings.proofs.Children.{Child}
use Rattle.beginnings.proofs.Follows.{Follows, length_more, follows_append}
use Rattle.beginnings.proofs.Loop.{loop_cut}
use Rattle.graph.specs.declared.Graph.{Graph}
use Rattle.rows.specs.Rows.{block_of}
use Rattle.judging.specs.Judging.{judged, found}
use Rattle.stops.specs.Used.{used_mask}
use Rattle.stops.proofs.UsedLaws.{used_down, used_below}
use Rattle.exploring.proofs.Searching.{Searching, untried_above, depth_fits, path_length, by_deepest}

-- the lowest of those left is at bit t
pub record Choosing (mode : ℕ) (g : Graph) (budget : ℕ) (blocks path₀ path untried stops places : List ℕ) (left used depth steps t : ℕ) : Type 0 where
  pub state : Searching mode g budget blocks path₀ path untried stops places left used depth steps
  pub some : left ≢ 0
  pub lowest : t ≡ count_trailing_zeros 32 left

module _ {mode : ℕ} {g : Graph} {budget : ℕ} {blocks path₀ path untried stops places : List ℕ} {left used depth steps t : ℕ} (c : Choosing mode g budget blocks path₀ path untried stops places left used depth steps t) where
  abbrev n : ℕ
  n = g.order

  abbrev block : ℕ → ℕ
  block = block_of g.starts

  abbrev here : List ℕ
  here = take depth path

  -- the beginning that is tried
  abbrev longer : List ℕ
  longer = here ++ (suc t ∷ [])

  abbrev trying : List ℕ → List (List ℕ) → ℕ → Search.Found
  trying b u c = try_all (judged mode g) (remaining n block (judged mode g) b u) c budget

  pub deep : depth < length path
  deep = depth_fits c.state

  pub long : length here ≡ depth
  long = path_length c.state

  pub positive : 0 < left
  positive = not_empty left c.some

  pub high : n ≤ 32
  high = c.state.formed.order_high

  pub vertex_below : t < n
  vertex_below = lowest_below left n t c.lowest c.state.left_below high positive

  pub place_fits_lem : t < 32
  place_fits_lem = omega (arith, vertex_below, high)

  pub weight_within : 2 ^ t ≤ left
  weight_within = lowest_within left n t c.lowest c.state.left_below high positive

  -- its subtree comes first in what is left
  pub split : members left n ≡ suc t ∷ members (left - 2 ^ t) n
  split = lowest_first left n t (left - 2 ^ t) c.lowest refl c.state.left_below high positive

  pub what_is_left : trying here ((suc t ∷ members (left - 2 ^ t) n) ∷ untried_above n untried depth) steps ≡ found mode g budget
  what_is_left = by_deepest c.state (suc t ∷ members (left - 2 ^ t) n) split

  pub child : Child n block here (suc t)
  child = c.state.left_untaken (suc t) (subst (λ (l : List ℕ). Memᴰ (suc t) l) (sym split) (Memᴰ.head refl))

  -- the others stay untried
  pub rest_untaken : (v : ℕ) → Memᴰ v (members (left - 2 ^ t) n) → Child n block here v
  rest_untaken v m = c.state.left_untaken v (subst (λ (l : List ℕ). Memᴰ v l) (sym split) (Memᴰ.tail m))

  pub rest_small : left - 2 ^ t < 2 ^ n
  rest_small = rest_below left n t (left - 2 ^ t) refl c.state.left_below

  pub longer_length : length longer ≡ suc depth
  longer_length = length_more here (suc t) ∙ ap suc long

  pub longer_follows : Follows n block [] longer
  longer_follows = follows_append n block [] here (suc t ∷ []) c.state.follows (child, tt)

  -- the mask of used vertices with it
  pub longer_used : used + 2 ^ t ≡ used_mask longer
  longer_used = used_down here (suc t) t used (used + 2 ^ t) refl c.state.in_use refl

  pub weight_used : used + 2 ^ t < 2 ^ n
  weight_used = rw longer_used (used_below n block longer longer_follows)

  pub cut_short : steps ≡ budget → cut ≡ found mode g budget
  cut_short h = sym (loop_cut n block (judged mode g) here (suc t) (members (left - 2 ^ t) n) (untried_above n untried depth) steps budget (omega arith)) ∙ what_is_left
