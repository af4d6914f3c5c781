-- What holds at each turn of the search: where it begins, where nothing is left, and what the ways round its loop share.
use Prim.Native.Nat.{ℕ, zero, suc, ◌-◌, ◌^◌, ◌≤◌, ◌<◌}
use native.Mathlib.Omega.{arith}
use mathlib.Core.Path.{◌≡◌, refl, sym, ap, ap₂, subst, ◌∙◌}
use mathlib.Core.Logic.{◌≢◌}
use mathlib.Core.List.{List, [], ◌∷◌, ◌++◌, Memᴰ}
use lib.ListN.{length, get_or, set, take, drop, replicate}
use lib.Seq.{get_or-set_other, take-suc, length-take-le, get_or-take}
use Rattle.laws.specs.Masks.{members, no_members}
use Rattle.beginnings.specs.Search.{none, try_all}
use Rattle.beginnings.specs.Search
use Rattle.beginnings.specs.Remaining.{shorter, remaining}
use Rattle.beginnings.proofs.Children.{Child, child_of_mem}
use Rattle.beginnings.proofs.Follows.{Follows, follows_start, beginning_of}
use Rattle.beginnings.proofs.Loop.{shorter_take, loop_begins, loop_over, loop_climb}
use Rattle.graph.specs.declared.Graph.{Graph}
use Rattle.words.specs.Placed.{placed}
use Rattle.rows.specs.Rows.{block_of}
use Rattle.graph.specs.WellFormed.{WellFormed}
use Rattle.arrangements.specs.Arrangement.{at}
use Rattle.words.proofs.Placed.{placed_at}
use Rattle.schemes.specs.Judging
use Rattle.judging.specs.Judging.{judged, found}
use Rattle.stops.specs.Used.{used_mask}
use Rattle.exploring.specs.Masks.{block_mask}
use Rattle.stops.specs.Stops.{Stopping}
use Rattle.stops.proofs.StoppingLaws.{stopping_begin, stopping_shorter}
use Rattle.exploring.proofs.MaskLaws.{mask_start, block_fits}
use Rattle.stops.proofs.UsedLaws.{used_more, used_up}

-- the untried vertices at each depth above d, the deepest first
unfoldable pub untried_above : ℕ → List ℕ → ℕ → List (List ℕ)
untried_above n masks zero = []
untried_above n masks (suc d) = members (get_or masks d 0) n ∷ untried_above n masks d

pub above_more : (n : ℕ) (masks : List ℕ) (d : ℕ) → untried_above n masks (suc d) ≡ members (get_or masks d 0) n ∷ untried_above n masks d
unfolding untried_above
above_more n masks d = refl

-- a mask that is stored at a depth changes nothing above it
pub above_stored : (n : ℕ) (masks : List ℕ) (i m d : ℕ) → d ≤ i → untried_above n (set masks i m) d ≡ untried_above n masks d
unfolding untried_above
above_stored n masks i m zero h = refl
above_stored n masks i m (suc d) h =
    ap₂ (λ (x : ℕ) (r : List (List ℕ)). members x n ∷ r) (get_or-set_other masks i d m 0 (omega arith)) (above_stored n masks i m d (omega arith))

-- left are the untried vertices at this depth; the stops are made by rows alone
pub record Searching (mode : ℕ) (g : Graph) (budget : ℕ) (blocks path₀ path untried stops places : List ℕ) (left used depth steps : ℕ) : Type 0 where
  pub formed : WellFormed g
  pub blocks_are : blocks ≡ placed (block_mask (block_of g.starts) g.order) g.order
  pub path_long : length path ≡ 32
  pub untried_long : length untried ≡ 32
  pub stops_long : length stops ≡ 32
  pub kept : drop g.order path ≡ drop g.order path₀
  pub shallow : depth < g.order
  pub counted : steps ≤ budget
  pub in_use : used ≡ used_mask (take depth path)
  pub follows : Follows g.order (block_of g.starts) [] (take depth path)
  pub opened : (d : ℕ) → 1 ≤ d → d ≤ depth → judged mode g (take d path) ≡ Search.«open»
  pub stopping : mode ≢ 2 → Stopping g.edges g.unknowns g.order depth path stops
  pub places_long : length places ≡ 32
  pub placed_at : (i : ℕ) → 1 ≤ i → i ≤ depth → at places (at path i) ≡ i
  pub left_below : left < 2 ^ g.order
  pub masks : (d : ℕ) → d < depth → get_or untried d 0 < 2 ^ g.order
  pub left_untaken : (v : ℕ) → Memᴰ v (members left g.order) → Child g.order (block_of g.starts) (take depth path) v
  pub untaken : (d : ℕ) → d < depth → (v : ℕ) → Memᴰ v (members (get_or untried d 0) g.order) → Child g.order (block_of g.starts) (take d path) v
  pub rest : try_all (judged mode g) (remaining g.order (block_of g.starts) (judged mode g) (take depth path) (members left g.order ∷ untried_above g.order untried depth)) steps budget ≡ found mode g budget

-- the block of place d + 1
pub block_at : (g : Graph) (blocks : List ℕ) → blocks ≡ placed (block_mask (block_of g.starts) g.order) g.order → (d : ℕ) → d < g.order → get_or blocks d 0 ≡ block_mask (block_of g.starts) g.order (suc d)
block_at g blocks e d h = let s : suc d - 1 ≡ d = omega arith in rw e (rw s at (placed_at (block_mask (block_of g.starts) g.order) g.order (suc d) (omega arith) h))

-- ---- the search begins

module _ (mode : ℕ) (g : Graph) (budget : ℕ) (blocks path₀ : List ℕ) where
  pub begins : WellFormed g → blocks ≡ placed (block_mask (block_of g.starts) g.order) g.order → length path₀ ≡ 32 → Searching mode g budget blocks path₀ path₀ (replicate 32 0) (replicate 32 0) (replicate 32 0) (get_or blocks 0 0) 0 0 0
  unfolding untried_above used_mask Judging.found
  begins w e l =
      record {
        formed = w;
        blocks_are = e;
        path_long = l;
        untried_long = refl;
        stops_long = refl;
        kept = refl;
        shallow = w.order_low;
        counted = omega arith;
        in_use = refl;
        follows = tt;
        opened = λ d a b. absurd (omega arith);
        stopping = λ rows. stopping_begin g.edges g.unknowns g.order path₀ (replicate 32 0) refl;
        places_long = refl;
        placed_at = λ i a b. absurd (omega arith);
        left_below = block_fits (block_of g.starts) g.order 1 (get_or blocks 0 0) first_block;
        masks = λ d h. absurd (omega arith);
        left_untaken = λ v m. child_of_mem g.order (block_of g.starts) [] v (subst (λ (x : List ℕ). Memᴰ v x) (mask_start g.order (block_of g.starts) (get_or blocks 0 0) first_block) m);
        untaken = λ d h. absurd (omega arith);
        rest = rw (mask_start g.order (block_of g.starts) (get_or blocks 0 0) first_block) (loop_begins g.order (block_of g.starts) (judged mode g) budget);
      }
    where
      first_block : get_or blocks 0 0 ≡ block_mask (block_of g.starts) g.order 1
      first_block = block_at g blocks e 0 w.order_low

module _ {mode : ℕ} {g : Graph} {budget : ℕ} {blocks path₀ path untried stops places : List ℕ} {left used depth steps : ℕ} (s : Searching mode g budget blocks path₀ path untried stops places left used depth steps) where
  abbrev n : ℕ
  n = g.order

  abbrev block : ℕ → ℕ
  block = block_of g.starts

  abbrev still : List ℕ → List (List ℕ) → List (List ℕ)
  still = remaining n block (judged mode g)

  pub depth_fits : depth < length path
  depth_fits = omega (arith, s.path_long, s.shallow, s.formed.order_high)

  pub path_length : length (take depth path) ≡ depth
  path_length = length-take-le depth path (omega (arith, depth_fits))

  -- a vertex of the path is one of 1..n
  pub path_vertex : (i : ℕ) → i < depth → (1 ≤ get_or path i 0) × (get_or path i 0 ≤ n)
  path_vertex i h =
      let b = beginning_of n block (take depth path) (omega (arith, path_length)) (omega (arith, path_length, s.shallow)) s.follows in
      let place : suc i - 1 ≡ i = omega arith in
      let same : at (take depth path) (suc i) ≡ get_or path i 0 = rw place (get_or-take depth path i 0 h) in
      (rw same at (b.low (suc i) (omega arith) (omega (arith, path_length))), rw same at (b.high (suc i) (omega arith) (omega (arith, path_length))))

  -- the path, by its last vertex
  last_vertex : (d : ℕ) → depth ≡ suc d → take depth path ≡ take d path ++ (get_or path d 0 ∷ [])
  last_vertex d e = rw e (take-suc path d 0 (omega (arith, depth_fits)))

  -- whose weight is in the mask of used vertices
  pub used_within : (d w : ℕ) → depth ≡ suc d → w ≡ 2 ^ (get_or path d 0 - 1) → w ≤ used
  used_within d w e q = omega (arith, s.in_use ∙ ap used_mask (last_vertex d e) ∙ used_more (take d path) (get_or path d 0))

  -- what is left, by the deepest list
  pub by_deepest : (vs : List ℕ) → members left n ≡ vs → try_all (judged mode g) (still (take depth path) (vs ∷ untried_above n untried depth)) steps budget ≡ found mode g budget
  by_deepest vs e = ap (λ (x : List ℕ). try_all (judged mode g) (still (take depth path) (x ∷ untried_above n untried depth)) steps budget) (sym e) ∙ s.rest

  -- ---- nothing is left at this depth

  module _ (z : left ≡ 0) where
    none_left : members left n ≡ []
    none_left = rw z (no_members n)

    pub over : depth ≡ 0 → none steps ≡ found mode g budget
    unfolding untried_above
    over e =
        sym (loop_climb n block (judged mode g) (take depth path) [] steps budget ∙ loop_over n block (judged mode g) (shorter (take depth path)) steps budget)
        ∙ ap (λ (d : ℕ). try_all (judged mode g) (still (take depth path) ([] ∷ untried_above n untried d)) steps budget) (sym e) ∙ by_deepest [] none_left

    pub climbed : (d w : ℕ) → depth ≡ suc d → w ≡ 2 ^ (get_or path d 0 - 1) → Searching mode g budget blocks path₀ path untried stops places (get_or untried d 0) (used - w) d steps
    climbed d w e q =
        record {
          formed = s.formed;
          blocks_are = s.blocks_are;
          path_long = s.path_long;
          untried_long = s.untried_long;
          stops_long = s.stops_long;
          kept = s.kept;
          shallow = omega (arith, s.shallow);
          counted = s.counted;
          in_use =
              used_up (take d path) (get_or path d 0) (get_or path d 0 - 1) used (used - w) (omega (arith, (path_vertex d (omega arith)).0)) (s.in_use ∙ ap used_mask last)
              (ap (λ (x : ℕ). used - x) q);
          follows = follows_start n block [] (take d path) (get_or path d 0 ∷ []) (subst (Follows n block []) last s.follows);
          opened = λ m a b. s.opened m a (omega arith);
          stopping = λ rows. stopping_shorter g.edges g.unknowns n d depth path stops (omega arith) (s.stopping rows);
          places_long = s.places_long;
          placed_at = λ i a b. s.placed_at i a (omega arith);
          left_below = s.masks d (omega arith);
          masks = λ m a. s.masks m (omega arith);
          left_untaken = s.untaken d (omega arith);
          untaken = λ m a. s.untaken m (omega arith);
          rest =
              ap₂ (λ (b : List ℕ) (u : List (List ℕ)). try_all (judged mode g) (still b u) steps budget) (sym shorter_path) (sym above)
              ∙ sym (loop_climb n block (judged mode g) (take depth path) (untried_above n untried depth) steps budget) ∙ by_deepest [] none_left;
        }
      where
        last : take depth path ≡ take d path ++ (get_or path d 0 ∷ [])
        last = last_vertex d e

        shorter_path : shorter (take depth path) ≡ take d path
        shorter_path = rw e (shorter_take d path (omega (arith, depth_fits)))

        above : untried_above n untried depth ≡ members (get_or untried d 0) n ∷ untried_above n untried d
        above = ap (untried_above n untried) e ∙ above_more n untried d
