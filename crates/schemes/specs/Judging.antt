-- Judging a drawing by a scheme: arrangements, certificates, beginnings, copies.
use Rattle.std.specs.Prelude.{ℕ, ◌-◌, ◌≤◌, ◌≡◌, ◌⊎◌, List, ℤ, length}
use Rattle.laws.specs.Each.{Each}
use Rattle.laws.specs.Pigeonhole.{Injects}
use Rattle.laws.specs.UpTo.{list_up_to}
use Rattle.walk.specs.Walk.{Outcome, won, lost, still_open, walk}
use Rattle.walk.specs.Clause.{Literal, clause}
use Rattle.walk.specs.Earlier.{Earlier, copy}
use Rattle.walk.specs.Meaning.{Full, Extends}
use Rattle.needed.specs.Enough.{literals, needed}
use Rattle.beginnings.specs.Beginning.{at}
use Rattle.beginnings.specs.Order.{Before}
use Rattle.beginnings.specs.Search.{Judgement, Found, searched, steps_needed}
use Rattle.beginnings.specs.Search
use Rattle.beginnings.specs.Certificate.{completed}
use Rattle.schemes.specs.Scheme.{Scheme, image, Listed}

-- ---- arrangements

-- the places 1..n of p hold each of 1..n once, each in the block of its place; what p holds after them doesn't matter
pub record Arranges (n : ℕ) (block : ℕ → ℕ) (p : List ℕ) : Type 0 where
  pub reorders : Injects n n (at p)
  pub in_block : (i : ℕ) → 1 ≤ i → i ≤ n → block (at p i) ≡ block i

-- the arrangement that puts each vertex at its own place
abbrev pub identity : ℕ → List ℕ
identity n = list_up_to (λ i. i) n

-- p composed with q puts p(q(i)) at i
abbrev pub composed : ℕ → List ℕ → List ℕ → List ℕ
composed n p q = list_up_to (λ i. at p (at q i)) n

-- the first n places of p
abbrev pub first_of : ℕ → List ℕ → List ℕ
first_of n p = list_up_to (λ i. at p i) n

-- ---- drawings

module _ {P : Type 0} (s : Scheme P) where
  -- every compared pair is 0 or 1
  abbrev pub FullOn : (P → ℕ) → Type 0
  FullOn H = Full (Listed s) H

  -- H has every entry that is known in v
  abbrev pub Has : (P → ℕ) → (P → ℕ) → Type 0
  Has v H = Extends (Listed s) v H

  -- the copy of H by p
  abbrev pub copy_by : List ℕ → (P → ℕ) → P → ℕ
  copy_by p H = copy (image s p) H

  -- x comes before y
  abbrev pub Comes : (x y : P → ℕ) → Type 0
  Comes x y = Earlier s.pairs x y

  -- x is y, at the compared pairs, or comes before it
  abbrev pub AtOrBefore : (x y : P → ℕ) → Type 0
  AtOrBefore x y = Each (λ k. x k ≡ y k) s.pairs ⊎ Comes x y

  -- the walk of p over all pairs
  unfoldable pub walk_of : (P → ℕ) → List ℕ → Outcome P
  walk_of v p = walk s.same (image s p) s.pairs v

  -- the literals that it meets, by the numbers of the pairs, which may come in another order
  unfoldable pub literals_by : List P → (P → ℕ) → List ℕ → List (Literal P)
  literals_by numbering v p = literals s.same (image s p) s.pairs v numbering

  -- those that are kept: from the highest number down, each is dropped where p wins by the others that remain
  unfoldable pub needed_by : List P → (P → ℕ) → List ℕ → List (Literal P)
  needed_by numbering v p = needed s.same (image s p) s.pairs v numbering

  -- how these are written
  unfoldable pub written_by : List P → (P → ℕ) → List ℕ → List ℤ
  written_by numbering v p = clause s.same (needed_by numbering v p) numbering

-- ---- beginnings

unfoldable pub judgement_of : {P : Type 0} → Outcome P → Judgement
judgement_of (won k) = Search.won
judgement_of lost = Search.lost
judgement_of still_open = Search.«open»

module _ {P : Type 0} (s : Scheme P) (v : P → ℕ) where
  -- the walk on which b is judged
  unfoldable pub judging : List ℕ → Outcome P
  judging b = walk s.same (image s b) (s.judged_on (length b)) v

  unfoldable pub judged : List ℕ → Judgement
  judged b = judgement_of (judging b)

module _ {P : Type 0} (n : ℕ) (s : Scheme P) (block : ℕ → ℕ) where
  -- what the search finds within the budget
  unfoldable pub found : (P → ℕ) → ℕ → Found
  found v budget = searched n block (judged s v) budget

  -- the steps that it needs
  abbrev pub steps_for : (P → ℕ) → ℕ
  steps_for v = steps_needed n block (judged s v)

  -- the first arrangement that extends a beginning
  abbrev pub extended : List ℕ → List ℕ
  extended b = completed n block (n - length b) b

  -- ---- certificates and copies

  -- a permitted arrangement whose walk is won
  pub record Certified (v : P → ℕ) (p : List ℕ) : Type 0 where
    pub permitted : Arranges n block p
    pub pair : P
    pub wins : walk_of s v p ≡ won pair

  -- one of length n before which no other comes
  pub record FirstCertified (v : P → ℕ) (p : List ℕ) : Type 0 where
    pub certified : Certified v p
    pub long : length p ≡ n
    pub earliest : (q : List ℕ) → Certified v q → length q ≡ n → (q ≡ p) ⊎ Before p q

  -- a permitted copy of H that comes before H
  pub record EarlierCopy (H : P → ℕ) (p : List ℕ) : Type 0 where
    pub permitted : Arranges n block p
    pub earlier : Comes s (copy_by s p H) H

  -- no permitted copy of H comes before H
  abbrev pub Smallest : (P → ℕ) → Type 0
  Smallest H = (p : List ℕ) → ¬ EarlierCopy H p

  -- the copy of H by q is at or before every permitted copy
  pub record LeastBy (H : P → ℕ) (q : List ℕ) : Type 0 where
    pub permitted : Arranges n block q
    pub least : (p : List ℕ) → Arranges n block p → AtOrBefore s (copy_by s q H) (copy_by s p H)
