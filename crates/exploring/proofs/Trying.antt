-- The path and the places with the vertex that is tried.
use Prim.Native.Nat.{ℕ, suc, ◌+◌, ◌-◌, ◌≤◌, ◌<◌}
use native.Mathlib.Omega.{arith}
use mathlib.Core.Path.{◌≡◌, refl, sym, ap, ◌∙◌}
use mathlib.Core.Logic.{◌≢◌}
use mathlib.Core.List.{List, [], ◌∷◌, ◌++◌, Memᴰ}
use lib.ListN.{length, get_or, set, take, drop, length-set}
use lib.Seq.{get_or-set_same, get_or-set_other, take-suc-set, take-set-le, drop-set-lt, get_or-take}
use Rattle.laws.specs.Compared.{by_same}
use Rattle.beginnings.proofs.Follows.{beginning_of, mem_at}
use Rattle.graph.specs.declared.Graph.{Graph}
use Rattle.rows.specs.Rows.{block_of}
use Rattle.arrangements.specs.Arrangement.{at}
use Rattle.turns.specs.Turns.{Within, Arranged, Places}
use Rattle.exploring.proofs.Searching.{path_vertex}
use Rattle.exploring.proofs.Choosing.{Choosing, deep, long, high, place_fits_lem, split, longer_length, longer_follows}

-- it is put at the next place of the path, and its place is noted
pub record Trying (mode : ℕ) (g : Graph) (budget : ℕ) (blocks path₀ path untried stops places : List ℕ) (left used depth steps t : ℕ) (next there : List ℕ) : Type 0 where
  pub choice : Choosing mode g budget blocks path₀ path untried stops places left used depth steps t
  pub put : next ≡ set path depth (t + 1)
  pub placed : there ≡ set places t (depth + 1)

module _ {mode : ℕ} {g : Graph} {budget : ℕ} {blocks path₀ path untried stops places : List ℕ} {left used depth steps t : ℕ} {next there : List ℕ} (y : Trying mode g budget blocks path₀ path untried stops places left used depth steps t next there) where
  abbrev n : ℕ
  n = g.order

  abbrev block : ℕ → ℕ
  block = block_of g.starts

  abbrev here : List ℕ
  here = take depth path

  -- the beginning that is tried
  abbrev longer : List ℕ
  longer = here ++ (suc t ∷ [])

  pub next_is : next ≡ set path depth (suc t)
  next_is = let a : t + 1 ≡ suc t = omega arith in y.put ∙ ap (set path depth) a

  pub next_path : take (suc depth) next ≡ longer
  next_path = ap (take (suc depth)) next_is ∙ take-suc-set path depth (suc t) (deep y.choice)

  pub before : (d : ℕ) → d ≤ depth → take d next ≡ take d path
  before d h = ap (take d) next_is ∙ take-set-le d path depth (suc t) h

  pub next_long : length next ≡ 32
  next_long = ap length next_is ∙ length-set path depth (suc t) ∙ y.choice.state.path_long

  pub next_kept : drop n next ≡ drop n path₀
  next_kept = ap (drop n) next_is ∙ drop-set-lt n path depth (suc t) y.choice.state.shallow ∙ y.choice.state.kept

  pub next_last : get_or next depth 0 ≡ suc t
  next_last = rw next_is (get_or-set_same path depth (suc t) 0 (deep y.choice))

  pub next_before : (i : ℕ) → i < depth → get_or next i 0 ≡ get_or path i 0
  next_before i h = rw next_is (get_or-set_other path depth i (suc t) 0 (omega arith))

  pub next_within : Within (depth + 1) next
  next_within = record { low = λ i a b. (in_range i a b).0; high = λ i a b. (in_range i a b).1 }
    where
      in_range : (i : ℕ) → 1 ≤ i → i ≤ depth + 1 → (1 ≤ at next i) × (at next i ≤ 32)
      in_range i a b =
          by_same (i - 1) depth
          (λ (k : i - 1 ≡ depth). let v : at next i ≡ suc t = ap (λ (j : ℕ). get_or next j 0) k ∙ next_last in (omega (arith, v), omega (arith, v, place_fits_lem y.choice)))
          (λ (k : i - 1 ≢ depth).
          let v : at next i ≡ get_or path (i - 1) 0 = next_before (i - 1) (omega arith) in
          let r = path_vertex y.choice.state (i - 1) (omega arith) in
          (omega (arith, v, r.0), omega (arith, v, r.1, high y.choice)))

  -- its first vertex is one of 1..32
  pub next_vertex : (1 ≤ at next 1) × (at next 1 ≤ 32)
  next_vertex = (next_within.low 1 (omega arith) (omega arith), next_within.high 1 (omega arith) (omega arith))

  -- where it fills every place, it holds different vertices of 1..n
  pub next_arranged : n ≤ depth + 1 → Arranged n next
  next_arranged h =
      let all : depth + 1 ≡ n = omega (arith, y.choice.state.shallow) in
      let b = beginning_of n block longer (omega (arith, longer_length y.choice)) (omega (arith, longer_length y.choice)) (longer_follows y.choice) in
      let same : (i : ℕ) → 1 ≤ i → i ≤ n → at longer i ≡ at next i = λ i l k. ap (λ (x : List ℕ). get_or x (i - 1) 0) (sym next_path) ∙ get_or-take (suc depth) next (i - 1) 0 (omega arith) in
      record {
        within = rw all at next_within;
        below = λ i l k. rw (same i l k) at (b.high i l (omega (arith, longer_length y.choice)));
        once = λ i j l k m e. b.once i j l k (omega (arith, longer_length y.choice)) (same i (omega arith) m ∙ e ∙ sym (same j l (omega arith)));
      }

  pub same_first : 1 ≤ depth → at next 1 ≡ at path 1
  same_first l = next_before 0 (omega arith)

  -- the places of the vertices before it stay, and it has its own
  pub there_long : length there ≡ 32
  there_long = ap length y.placed ∙ length-set places t (depth + 1) ∙ y.choice.state.places_long

  pub there_before : (i : ℕ) → 1 ≤ i → i ≤ depth → at there (at next i) ≡ i
  there_before i l h =
      let same : at next i ≡ at path i = next_before (i - 1) (omega arith) in
      let r = path_vertex y.choice.state (i - 1) (omega arith) in
      rw (same, y.placed) (get_or-set_other places t (at path i - 1) (depth + 1) 0 (λ z. untaken (rw (vertex_is z) (vertex_in i l h))) ∙ y.choice.state.placed_at i l h)
    where
      untaken : Memᴰ (suc t) here → ⊥
      untaken = (y.choice.state.left_untaken (suc t) (rw (split y.choice) (Memᴰ.head refl))).new

      vertex_is : at path i - 1 ≡ t → suc t ≡ at path i
      vertex_is z = omega (arith, (path_vertex y.choice.state (i - 1) (omega arith)).0)

      vertex_in : (i : ℕ) → 1 ≤ i → i ≤ depth → Memᴰ (at path i) here
      vertex_in i l h = rw (← get_or-take depth path (i - 1) 0 (omega arith)) (mem_at here (i - 1) (omega (arith, long y.choice)))

  pub there_last : at there (at next (depth + 1)) ≡ depth + 1
  there_last =
      let place : depth + 1 - 1 ≡ depth = omega arith in
      let own : suc t - 1 ≡ t = omega arith in
      rw (place, next_last, y.placed, own) (get_or-set_same places t (depth + 1) 0 (omega (arith, y.choice.state.places_long, place_fits_lem y.choice)))

  -- where it fills every place, they are the places of an arrangement
  pub next_places : n ≤ depth + 1 → Places n next there
  next_places h =
      record {
        arranged = next_arranged h;
        undone = λ i l k. by_same i (depth + 1) (λ (q : i ≡ depth + 1). rw q there_last) (λ (q : i ≢ depth + 1). there_before i l (omega (arith, y.choice.state.shallow)));
      }
