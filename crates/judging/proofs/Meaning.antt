-- What a certificate is: a permitted arrangement is one exactly where its walk is won. The full drawings of a graph, as graphs and as entries
-- at its pairs, are the same thing.
use Prim.Native.Nat.{ℕ, ◌≤◌, ◌<◌}
use native.Mathlib.Omega.{arith}
use mathlib.Core.Path.{◌≡◌, refl, sym, ◌∙◌}
use mathlib.Core.Logic.{◌↔◌}
use mathlib.Core.List.{List}
use lib.Dec.{ltb}
use borrow.Author.Tests.{lt-ltb}
use Rattle.laws.specs.Each.{Each}
use Rattle.laws.specs.TestLaws.{pick_true}
use Rattle.walk.specs.Walk.{won}
use Rattle.walk.proofs.Order.{earlier_alike}
use Rattle.schemes.specs.Judging.{FullOn, Has, copy_by, Comes}
use Rattle.schemes.proofs.Images.{image_listed}
use Rattle.schemes.proofs.Meaning.{walk_means}
use Rattle.plain.specs.Plain.{compared_in, by_mode}
use Rattle.plain.proofs.Modes.{mode_lawful, mode_given, mode_numbered, numbered_compared}
use Rattle.graph.specs.declared.Graph.{Graph}
use Rattle.graph.specs.Graph.{entry, drawn, relabelled}
use Rattle.rows.specs.Rows.{mirrored}
use Rattle.graph.specs.WellFormed.{WellFormed}
use Rattle.arrangements.specs.Arrangement.{at, Permitted}
use Rattle.pairs.specs.Pairs.{Pair, pair, pairs}
use Rattle.graph.specs.Counts.{entry_at}
use Rattle.pairs.proofs.PairLaws.{pairs_given, pairs_has}
use Rattle.graph.proofs.Drawn.{drawn_entry, drawn_formed}
use Rattle.graph.proofs.Relabelling.{relabelled_order, relabelled_entry}
use Rattle.judging.specs.Order.{EarlierGraph}
use Rattle.judging.specs.Judging.{walk_all}
use Rattle.judging.specs.Certificates.{FullGraph, Certified}
use Rattle.judging.proofs.FullyDrawn.{fully_drawn_by}
use Rattle.judging.proofs.Arrangements.{permitted_arranges, entry_of_two}

-- ---- copies

-- the entry of a graph relabelled by p at a pair is the graph's entry at its image
pub relabelled_image : (mode : ℕ) (h : Graph) → WellFormed h → (p : List ℕ) → Each (λ k. entry_at (relabelled h p) k ≡ copy_by (by_mode mode h.order) p (entry_at h) k) (compared_in mode h.order)
relabelled_image mode h w p k m =
    let b = mode_given mode h.order k m in
    relabelled_entry h p w k.row k.column b.from_low (omega arith) (omega arith) b.to_high
    ∙ sym (entry_of_two h w (at p k.row) (at p k.column))

-- so the relabelled graph is earlier exactly where the entries of the images are
pub copy_earlier : (mode : ℕ) (h : Graph) → WellFormed h → (p : List ℕ) → Comes (by_mode mode h.order) (copy_by (by_mode mode h.order) p (entry_at h)) (entry_at h) ↔ EarlierGraph mode (relabelled h p) h
copy_earlier mode h w p =
    rw (relabelled_order h p w) (
      earlier_alike (compared_in mode h.order) (copy_by (by_mode mode h.order) p (entry_at h)) (entry_at h) (entry_at (relabelled h p)) (entry_at h) (relabelled_image mode h w p) (λ k m. refl),
      earlier_alike (compared_in mode h.order) (entry_at (relabelled h p)) (entry_at h) (copy_by (by_mode mode h.order) p (entry_at h)) (entry_at h) (λ k m. sym (relabelled_image mode h w p k m)) (λ k m. refl),
    )

-- ---- drawings

-- every drawing of entries 0, 1 and 2 is that of a graph
module _ (g : Graph) (w : WellFormed g) (H : Pair → ℕ) (small : Each (λ k. H k ≤ 2) (pairs g.order)) where
  pub graph_with : Graph
  graph_with = drawn g.order g.starts (λ i j. H (pair i j))

  small_at : (i j : ℕ) → 1 ≤ i → i < j → j ≤ g.order → H (pair i j) ≤ 2
  small_at i j li l hj = small (pair i j) (pairs_has g.order (pair i j) (record { from_low = li; rising = l; to_high = hj }))

  with_entry_lem : (i j : ℕ) → 1 ≤ i → i < j → j ≤ g.order → entry graph_with i j ≡ H (pair i j)
  unfolding graph_with mirrored
  with_entry_lem i j li l hj =
      drawn_entry g.order g.starts (λ i j. H (pair i j)) (λ a b la c hb. omega (arith, small_at a b la c hb)) i j li (omega arith) (omega arith) hj
      ∙ pick_true (ltb i j) _ _ (lt-ltb i j l)

  pub with_order : graph_with.order ≡ g.order
  unfolding graph_with drawn
  with_order = refl

  pub with_starts : graph_with.starts ≡ g.starts
  unfolding graph_with drawn
  with_starts = refl

  pub with_formed : WellFormed graph_with
  unfolding graph_with
  with_formed = drawn_formed g.order g.starts (λ i j. H (pair i j)) w.order_low w.order_high w.first_starts w.no_start_past small_at

  pub with_entries : Each (λ k. entry_at graph_with k ≡ H k) (pairs g.order)
  with_entries k m = let b = pairs_given g.order k m in with_entry_lem k.row k.column b.from_low b.rising b.to_high

-- a full one that of a full drawing
module _ (g : Graph) (w : WellFormed g) (H : Pair → ℕ) (full : Each (λ k. H k ≤ 1) (pairs g.order)) where
  small : Each (λ k. H k ≤ 2) (pairs g.order)
  small k m = omega (arith, full k m)

  pub full_with : Graph
  full_with = graph_with g w H small

  pub full_entries : Each (λ k. entry_at full_with k ≡ H k) (pairs g.order)
  unfolding full_with
  full_entries = with_entries g w H small

  pub full_with_lem : FullGraph g.order g.starts full_with
  unfolding full_with
  full_with_lem =
      record {
        formed = with_formed g w H small;
        full = fully_drawn_by (graph_with g w H small) (with_formed g w H small)
            (λ i j li l hj.
            let h : j ≤ g.order = rw (with_order g w H small) at hj in
            let m = pairs_has g.order (pair i j) (record { from_low = li; rising = l; to_high = h }) in
            omega (arith, with_entries g w H small (pair i j) m, full (pair i j) m));
        order_is = with_order g w H small;
        starts_are = with_starts g w H small;
      }

-- ---- certificates

module _ (mode : ℕ) (g : Graph) (w : WellFormed g) (p : List ℕ) (permitted : Permitted g.order g.starts p) where
  -- the walk is won exactly where the copy of every full drawing of entries comes earlier
  means : ((k : Pair) × (walk_all mode g p ≡ won k)) ↔ ((H : Pair → ℕ) → FullOn (by_mode mode g.order) H → Has (by_mode mode g.order) (entry_at g) H → Comes (by_mode mode g.order) (copy_by (by_mode mode g.order) p H) H)
  means = walk_means (mode_lawful mode g.order) (entry_at g) p (permitted_arranges g.order g.starts p permitted).reorders

  -- so it is won exactly where every full drawing of g has an earlier relabelled copy
  pub certified_won : Certified mode g p ↔ ((k : Pair) × (walk_all mode g p ≡ won k))
  certified_won = (to, from)
    where
      from : (k : Pair) × (walk_all mode g p ≡ won k) → Certified mode g p
      from k =
          record {
            permitted = permitted;
            earlier = λ h c.
                let d = c.drawing in
                (copy_earlier mode h d.formed p).0 (rw d.order_is (means.0 k (entry_at h) (λ j m. d.full.known j.row j.column) (λ j m. c.agrees j (mode_numbered mode g.order j m))));
          }

      to : Certified mode g p → (k : Pair) × (walk_all mode g p ≡ won k)
      to c =
          means.1
          (λ H f x.
          let full : Each (λ k. H k ≤ 1) (pairs g.order) = λ k m. f k (numbered_compared mode g.order k m) in
          let h : Graph = full_with g w H full in
          let d : FullGraph g.order g.starts h = full_with_lem g w H full in
          let same : Each (λ k. entry_at h k ≡ H k) (compared_in mode g.order) = λ k m. full_entries g w H full k (mode_numbered mode g.order k m) in
          let e : Comes (by_mode mode g.order) (copy_by (by_mode mode g.order) p (entry_at h)) (entry_at h) = rw d.order_is at ((copy_earlier mode h d.formed p).1 (c.earlier h (record { drawing = d; agrees = λ k m l. let i = numbered_compared mode g.order k m in same k i ∙ x k i l }))) in
          earlier_alike (compared_in mode g.order) (copy_by (by_mode mode g.order) p (entry_at h)) (entry_at h) (copy_by (by_mode mode g.order) p H) H
          (λ k m. sym (same _ (image_listed (mode_lawful mode g.order) p (permitted_arranges g.order g.starts p permitted).reorders k m))) (λ k m. sym (same k m)) e)
