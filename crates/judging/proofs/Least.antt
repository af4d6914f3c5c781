-- Every fully drawn graph has a permitted copy that is at or before every permitted copy; there is one such graph, and no permitted copy
-- of it is earlier.
use Prim.Native.Nat.{ℕ, ◌≤◌}
use native.Mathlib.Omega.{arith}
use mathlib.Core.Path.{◌≡◌, refl, sym, ap, ap₂, subst, ◌∙◌}
use mathlib.Core.Logic.{◌⊎◌, inl, inr}
use mathlib.Core.List.{List}
use lib.ListN.{length}
use Rattle.laws.specs.UpToLaws.{list_at, list_length}
use Rattle.walk.proofs.Order.{earlier_alike, earlier_irreflexive, earlier_transitive}
use Rattle.schemes.specs.Judging.{copy_by, AtOrBefore, first_of}
use Rattle.schemes.proofs.Images.{image_alike}
use Rattle.schemes.proofs.Arranging.{arranges_beginning, first_arranges}
use Rattle.schemes.proofs.Least
use Rattle.plain.specs.Plain.{compared_in, by_mode}
use Rattle.plain.proofs.Modes.{mode_lawful, mode_has}
use Rattle.graph.specs.declared.Graph.{Graph}
use Rattle.graph.specs.Graph.{entry, relabelled}
use Rattle.rows.specs.Rows.{block_of}
use Rattle.graph.specs.WellFormed.{WellFormed}
use Rattle.arrangements.specs.Arrangement.{at, Reordering, Permitted}
use Rattle.composing.specs.Composed.{composed}
use Rattle.pairs.specs.Pairs.{pair}
use Rattle.graph.specs.Counts.{entry_at}
use Rattle.graph.proofs.Drawn.{same_graph}
use Rattle.composing.proofs.Composing.{composed_at, composed_permitted}
use Rattle.graph.proofs.Relabelling.{relabelled_order, relabelled_starts, relabelled_entry, relabelled_formed}
use Rattle.judging.specs.Order.{FullyDrawn, EarlierGraph}
use Rattle.judging.specs.Judging.{padded}
use Rattle.judging.specs.Drawings.{Smallest, LeastBy}
use Rattle.judging.proofs.Arrangements.{padded_at, padded_permitted, permitted_arranges}
use Rattle.judging.proofs.Meaning.{relabelled_image}

-- ---- copies

-- the copy by q of the copy by p is the copy by p composed with q
pub relabelled_twice : (h : Graph) → WellFormed h → (p q : List ℕ) → Reordering h.order q → relabelled (relabelled h p) q ≡ relabelled h (composed h.order p q)
relabelled_twice h w p q r =
    same_graph (relabelled (relabelled h p) q) (relabelled h pq) (relabelled_formed (relabelled h p) q wp) (relabelled_formed h pq w)
    (relabelled_order (relabelled h p) q wp ∙ relabelled_order h p w ∙ sym (relabelled_order h pq w))
    (relabelled_starts (relabelled h p) q wp ∙ relabelled_starts h p w ∙ sym (relabelled_starts h pq w))
    (λ i j li l hj. entries i j li (omega arith) (omega arith) (rw (relabelled_order (relabelled h p) q wp, relabelled_order h p w) at hj))
  where
    pq : List ℕ
    pq = composed h.order p q

    wp : WellFormed (relabelled h p)
    wp = relabelled_formed h p w

    entries : (i j : ℕ) → 1 ≤ i → i ≤ j → 1 ≤ j → j ≤ h.order → entry (relabelled (relabelled h p) q) i j ≡ entry (relabelled h pq) i j
    entries i j li l lj hj =
        let hi : i ≤ h.order = omega arith in
        relabelled_entry (relabelled h p) q wp i j li (rw (relabelled_order h p w) hi) lj (rw (relabelled_order h p w) hj)
        ∙ relabelled_entry h p w (at q i) (at q j) (r.low i li hi) (r.high i li hi) (r.low j lj hj) (r.high j lj hj)
        ∙ ap₂ (entry h) (sym (composed_at h.order p q i li hi)) (sym (composed_at h.order p q j lj hj))
        ∙ sym (relabelled_entry h pq w i j li hi lj hj)

module _ (mode : ℕ) (h : Graph) (w : WellFormed h) where
  -- a copy of the theory at or before another one is so as a graph
  copy_order : (q p : List ℕ) → AtOrBefore (by_mode mode h.order) (copy_by (by_mode mode h.order) q (entry_at h)) (copy_by (by_mode mode h.order) p (entry_at h))
      → (relabelled h q ≡ relabelled h p) ⊎ EarlierGraph mode (relabelled h q) (relabelled h p)
  copy_order q p (inl same) =
      inl (same_graph (relabelled h q) (relabelled h p) (relabelled_formed h q w) (relabelled_formed h p w) (relabelled_order h q w ∙ sym (relabelled_order h p w)) (relabelled_starts h q w ∙ sym (relabelled_starts h p w))
      (λ i j li l hj.
      let m = mode_has mode h.order (pair i j) (record { from_low = li; rising = l; to_high = rw (relabelled_order h q w) at hj }) in
      relabelled_image mode h w q (pair i j) m ∙ same (pair i j) m ∙ sym (relabelled_image mode h w p (pair i j) m)))
  copy_order q p (inr e) =
      inr (rw (relabelled_order h q w)
      (earlier_alike (compared_in mode h.order) (copy_by (by_mode mode h.order) q (entry_at h)) (copy_by (by_mode mode h.order) p (entry_at h)) (entry_at (relabelled h q)) (entry_at (relabelled h p)) (relabelled_image mode h w q) (relabelled_image mode h w p) e))

  -- every fully drawn graph has such a copy
  pub least_copy : FullyDrawn h → (q : List ℕ) × LeastBy mode h q
  least_copy d =
      let n = h.order in
      let r = Least.least_copy (mode_lawful mode n) (block_of h.starts) w.order_low (entry_at h) (λ k m. d.known k.row k.column) in
      let b : List ℕ = first_of n r.0 in
      let long : length b ≡ n = list_length (λ i. at r.0 i) n in
      let same : (i : ℕ) → 1 ≤ i → i ≤ n → at r.0 i ≡ at (padded b) i = λ i l u. sym (padded_at b i ∙ list_at (λ i. at r.0 i) n i 0 l u) in (
        padded b,
        record {
          permitted = padded_permitted n h.starts w.order_high b (arranges_beginning n (block_of h.starts) w.order_low b (first_arranges n (block_of h.starts) r.0 r.1.permitted) long) long;
          least = λ p a. copy_order (padded b) p (moved r.0 (padded b) p same (r.1.least p (permitted_arranges n h.starts p a)));
        },
      )
    where
      -- which depends on the places 1..n alone
      moved : (q t p : List ℕ) → ((i : ℕ) → 1 ≤ i → i ≤ h.order → at q i ≡ at t i)
          → AtOrBefore (by_mode mode h.order) (copy_by (by_mode mode h.order) q (entry_at h)) (copy_by (by_mode mode h.order) p (entry_at h))
          → AtOrBefore (by_mode mode h.order) (copy_by (by_mode mode h.order) t (entry_at h)) (copy_by (by_mode mode h.order) p (entry_at h))
      moved q t p e (inl same) = inl (λ k m. ap (entry_at h) (sym (image_alike (mode_lawful mode h.order) q t e k m)) ∙ same k m)
      moved q t p e (inr f) =
          inr (earlier_alike (compared_in mode h.order) (copy_by (by_mode mode h.order) q (entry_at h)) (copy_by (by_mode mode h.order) p (entry_at h)) (copy_by (by_mode mode h.order) t (entry_at h)) (copy_by (by_mode mode h.order) p (entry_at h))
          (λ k m. ap (entry_at h) (sym (image_alike (mode_lawful mode h.order) q t e k m))) (λ k m. refl) f)

  -- ---- one at most, and the smallest

  -- neither of two graphs of one order is earlier than the other where the other is earlier than it
  not_both : (x y : Graph) → x.order ≡ y.order → EarlierGraph mode x y → EarlierGraph mode y x → ⊥
  not_both x y o e f =
      earlier_irreflexive (entry_at x) (compared_in mode x.order) (earlier_transitive (entry_at x) (entry_at y) (entry_at x) (compared_in mode x.order) e (rw (sym o) at f))

  same_orders : (q p : List ℕ) → (relabelled h q).order ≡ (relabelled h p).order
  same_orders q p = relabelled_order h q w ∙ sym (relabelled_order h p w)

  -- two such copies are one graph
  pub least_unique : (q t : List ℕ) → LeastBy mode h q → LeastBy mode h t → relabelled h q ≡ relabelled h t
  least_unique q t l m = at_once (l.least t m.permitted) (m.least q l.permitted)
    where
      at_once : (relabelled h q ≡ relabelled h t) ⊎ EarlierGraph mode (relabelled h q) (relabelled h t) → (relabelled h t ≡ relabelled h q) ⊎ EarlierGraph mode (relabelled h t) (relabelled h q) → relabelled h q ≡ relabelled h t
      at_once (inl e) y = e
      at_once (inr e) (inl f) = sym f
      at_once (inr e) (inr f) = absurd (not_both (relabelled h q) (relabelled h t) (same_orders q t) e f)

  -- no permitted copy of it is earlier
  pub least_smallest : (q : List ℕ) → LeastBy mode h q → Smallest mode (relabelled h q)
  least_smallest q l p e = against (l.least c (composed_permitted h.order h.starts q p w.order_high l.permitted a))
    where
      c : List ℕ
      c = composed h.order q p

      a : Permitted h.order h.starts p
      a = rw (relabelled_order h q w, relabelled_starts h q w) at e.permitted

      earlier : EarlierGraph mode (relabelled h c) (relabelled h q)
      earlier = rw (relabelled_twice h w q p a.reordering) at e.earlier

      against : (relabelled h q ≡ relabelled h c) ⊎ EarlierGraph mode (relabelled h q) (relabelled h c) → ⊥
      against (inl s) = not_both (relabelled h c) (relabelled h q) (same_orders c q) earlier (subst (λ (x : Graph). EarlierGraph mode (relabelled h q) x) s (rw (sym s) at earlier))
      against (inr f) = not_both (relabelled h q) (relabelled h c) (same_orders q c) f earlier
