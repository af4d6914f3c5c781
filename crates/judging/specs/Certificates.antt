-- Certificates of a graph, what their walks meet, and what literals say, in the rules' words.
use Rattle.std.specs.Prelude.{ℕ, ◌≤◌, ◌≡◌, ◌⊎◌, ◌≢◌, true, List}
use Rattle.laws.specs.Each.{Each}
use Rattle.laws.specs.Test.{pick}
use Rattle.walk.specs.Walk.{won}
use Rattle.walk.specs.Clause.{Literal, absent, present, among}
use Rattle.beginnings.specs.Order.{Before}
use Rattle.graph.specs.declared.Graph.{Graph}
use Rattle.graph.specs.Graph.{relabelled}
use Rattle.graph.specs.WellFormed.{WellFormed}
use Rattle.arrangements.specs.Arrangement.{Permitted}
use Rattle.pairs.specs.Pairs.{Pair, Between, pairs}
use Rattle.graph.specs.Counts.{entry_at}
use Rattle.judging.specs.Order.{FullyDrawn, EarlierGraph}
use Rattle.plain.specs.Plain.{same_pair, image}
use Rattle.plain.specs.Before.{before_in}
use Rattle.judging.specs.Judging.{walk_all}

-- ---- full drawings

-- a fully drawn, well-formed graph of order n with these block starts
pub record FullGraph (n starts : ℕ) (h : Graph) : Type 0 where
  pub formed : WellFormed h
  pub full : FullyDrawn h
  pub order_is : h.order ≡ n
  pub starts_are : h.starts ≡ starts

-- h is a full drawing of g: of its order and blocks, with every entry that is known in g
pub record Completes (g h : Graph) : Type 0 where
  pub drawing : FullGraph g.order g.starts h
  pub agrees : Each (λ k. entry_at g k ≤ 1 → entry_at h k ≡ entry_at g k) (pairs g.order)

-- ---- certificates

-- a permitted arrangement under which every full drawing of the graph has an earlier relabelled copy
pub record Certified (mode : ℕ) (g : Graph) (p : List ℕ) : Type 0 where
  pub permitted : Permitted g.order g.starts p
  pub earlier : (h : Graph) → Completes g h → EarlierGraph mode (relabelled h p) h

-- p, with the winning pair k, comes first of all of them in dictionary order
pub record FirstCertified (mode : ℕ) (g : Graph) (p : List ℕ) (k : Pair) : Type 0 where
  pub certified : Certified mode g p
  pub wins : walk_all mode g p ≡ won k
  pub earliest : (q : List ℕ) → Certified mode g q → (q ≡ p) ⊎ Before p q

-- ---- the clause

-- j is a pair of 1..n and is k or comes before it in the order of the mode
pub record UpTo (mode n : ℕ) (j k : Pair) : Type 0 where
  pub between : Between 1 n j
  pub at_most : (j ≡ k) ⊎ (before_in mode j k ≡ true)

-- j was met, other than against itself, up to and with the winning pair k: at its own place, or as the image of i
pub data MetUpTo (mode : ℕ) (g : Graph) (p : List ℕ) (k j : Pair) : Type 0 where
  in_place : UpTo mode g.order j k → image p j ≢ j → MetUpTo mode g p k j
  as_image : (i : Pair) → UpTo mode g.order i k → image p i ≢ i → j ≡ image p i → MetUpTo mode g p k j

-- what the literals say of the entry at k: 1 where "not k" is one of them, 0 where k is, else nothing
unfoldable pub said_at : List (Literal Pair) → Pair → ℕ
said_at lits k = pick (among same_pair (absent k) lits) 1 (pick (among same_pair (present k) lits) 0 2)

-- h, of g's order and blocks, knows only what the literals say
pub record KnowsOnly (g : Graph) (lits : List (Literal Pair)) (h : Graph) : Type 0 where
  pub formed : WellFormed h
  pub order_is : h.order ≡ g.order
  pub starts_are : h.starts ≡ g.starts
  pub entries : Each (λ k. entry_at h k ≡ said_at lits k) (pairs g.order)
