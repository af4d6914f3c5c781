-- Composing puts p(q(i)) at i, and the inverse undoes an arrangement on either side. Both keep reorderings, and permitted arrangements.
use Prim.Native.Nat.{ℕ, zero, suc, ◌≤◌, ◌<◌}
use mathlib.Core.Path.{◌≡◌, sym, ap, ◌∙◌}
use mathlib.Core.Logic.{◌≢◌}
use mathlib.Core.List.{List}
use native.Mathlib.Omega.{arith}
use lib.Dec.{eqb}
use borrow.Author.Tests.{eq-eqb, ne_eqb}
use Rattle.laws.specs.Compared.{by_order, by_below, by_same}
use Rattle.laws.specs.TestLaws.{pick_true, pick_false}
use Rattle.laws.specs.Pigeonhole.{each_taken}
use Rattle.rows.specs.Rows.{block_of}
use Rattle.words.specs.Placed.{placed}
use Rattle.arrangements.specs.Arrangement.{at, Reordering, Permitted}
use Rattle.composing.specs.Composed.{composed, place_of, inverse}
use Rattle.words.proofs.Placed.{placed_length, placed_at, placed_past}

-- numbers placed at 1..n make a reordering where they are of 1..n and no two are equal
placed_reordering : (n : ℕ) (f : ℕ → ℕ) → n ≤ 32 → ((i : ℕ) → 1 ≤ i → i ≤ n → 1 ≤ f i) → ((i : ℕ) → 1 ≤ i → i ≤ n → f i ≤ n)
    → ((i j : ℕ) → 1 ≤ j → j < i → i ≤ n → f i ≢ f j) → Reordering n (placed f n)
placed_reordering n f h low high once =
    record {
      long = placed_length f n h;
      low = λ i l m. rw (placed_at f n i l m) (low i l m);
      high = λ i l m. rw (placed_at f n i l m) (high i l m);
      once = λ i j l d m e. once i j l d m (sym (placed_at f n i (omega arith) m) ∙ e ∙ placed_at f n j l (omega arith));
      zeros = placed_past f n;
    }

-- an arrangement has each vertex at one place only
pub one_place : (n : ℕ) (p : List ℕ) → Reordering n p → (i j : ℕ) → 1 ≤ i → i ≤ n → 1 ≤ j → j ≤ n → at p i ≡ at p j → i ≡ j
one_place n p r i j li hi lj hj e =
    by_order i j (λ l. absurd (r.once j i li l hj (sym e))) (λ q. q) (λ l. absurd (r.once i j lj l hi e))

-- ---- the identity

-- the arrangement that puts each vertex at its own place
abbrev pub identity : ℕ → List ℕ
identity n = placed (λ i. i) n

-- it is a reordering
pub identity_reordering : (n : ℕ) → n ≤ 32 → Reordering n (identity n)
identity_reordering n h = placed_reordering n (λ i. i) h (λ i l m. l) (λ i l m. m) (λ i j l d m. omega arith)

-- it is permitted in any blocks
pub identity_permitted : (n starts : ℕ) → n ≤ 32 → Permitted n starts (identity n)
identity_permitted n starts h =
    record { reordering = identity_reordering n h; in_block = λ i l m. ap (block_of starts) (placed_at (λ k. k) n i l m) }

-- ---- composing

-- p composed with q has p(q(i)) at i
pub composed_at : (n : ℕ) (p q : List ℕ) (i : ℕ) → 1 ≤ i → i ≤ n → at (composed n p q) i ≡ at p (at q i)
unfolding composed
composed_at n p q i l h = placed_at (λ k. at p (at q k)) n i l h

-- two reorderings compose to one
pub composed_reordering : (n : ℕ) (p q : List ℕ) → n ≤ 32 → Reordering n p → Reordering n q → Reordering n (composed n p q)
unfolding composed
composed_reordering n p q h r s =
    placed_reordering n (λ i. at p (at q i)) h (λ i l m. r.low (at q i) (s.low i l m) (s.high i l m))
    (λ i l m. r.high (at q i) (s.low i l m) (s.high i l m))
    (λ i j l d m e.
    let li : 1 ≤ i = omega arith in
    let hj : j ≤ n = omega arith in
    s.once i j l d m (one_place n p r (at q i) (at q j) (s.low i li m) (s.high i li m) (s.low j l hj) (s.high j l hj) e))

-- two permitted arrangements compose to a permitted one
pub composed_permitted : (n starts : ℕ) (p q : List ℕ) → n ≤ 32 → Permitted n starts p → Permitted n starts q → Permitted n starts (composed n p q)
composed_permitted n starts p q h a b =
    record {
      reordering = composed_reordering n p q h a.reordering b.reordering;
      in_block = λ i l m.
          ap (block_of starts) (composed_at n p q i l m)
          ∙ a.in_block (at q i) (b.reordering.low i l m) (b.reordering.high i l m) ∙ b.in_block i l m;
    }

-- ---- the place of a vertex

-- it is one of 1..n, or 0
pub place_high : (p : List ℕ) (n v : ℕ) → place_of p n v ≤ n
unfolding place_of
place_high p zero v = omega arith
place_high p (suc n) v =
    by_same (at p (suc n)) v (λ e. rw (pick_true (eqb (at p (suc n)) v) (suc n) (place_of p n v) (eq-eqb (at p (suc n)) v e)) (omega arith))
    (λ d. rw (pick_false (eqb (at p (suc n)) v) (suc n) (place_of p n v) (ne_eqb (at p (suc n)) v d)) (omega (arith, place_high p n v)))

-- where it is not 0, the vertex is there
pub place_holds : (p : List ℕ) (n v : ℕ) → 1 ≤ place_of p n v → at p (place_of p n v) ≡ v
unfolding place_of
place_holds p zero v h = absurd (omega arith)
place_holds p (suc n) v h =
    by_same (at p (suc n)) v (λ e. rw (pick_true (eqb (at p (suc n)) v) (suc n) (place_of p n v) (eq-eqb (at p (suc n)) v e)) e)
    (λ d. let q = pick_false (eqb (at p (suc n)) v) (suc n) (place_of p n v) (ne_eqb (at p (suc n)) v d) in rw q (place_holds p n v (rw q at h)))

-- and no later place has it
pub place_last : (p : List ℕ) (n v i : ℕ) → 1 ≤ i → i ≤ n → at p i ≡ v → i ≤ place_of p n v
unfolding place_of
place_last p zero v i l h e = absurd (omega arith)
place_last p (suc n) v i l h e =
    by_same (at p (suc n)) v (λ q. rw (pick_true (eqb (at p (suc n)) v) (suc n) (place_of p n v) (eq-eqb (at p (suc n)) v q)) h)
    (λ d. rw (pick_false (eqb (at p (suc n)) v) (suc n) (place_of p n v) (ne_eqb (at p (suc n)) v d))
    (by_same i (suc n) (λ q. absurd (d (ap (at p) (sym q) ∙ e))) (λ a. place_last p n v i l (omega arith) e)))

module _ (n : ℕ) (p : List ℕ) (r : Reordering n p) where
  -- a reordering has each vertex somewhere
  pub place_low : (v : ℕ) → 1 ≤ v → v ≤ n → 1 ≤ place_of p n v
  place_low v l h =
      by_below 0 (place_of p n v) (λ f. f)
      (λ z. absurd (each_taken n (at p) (record { low = r.low; high = r.high; once = r.once }) v l h (λ i li hi e. omega (arith, place_last p n v i li hi e))))

  -- the vertex stands at its place
  pub at_place : (v : ℕ) → 1 ≤ v → v ≤ n → at p (place_of p n v) ≡ v
  at_place v l h = place_holds p n v (place_low v l h)

  -- p(i) has the place i
  pub place_at : (i : ℕ) → 1 ≤ i → i ≤ n → place_of p n (at p i) ≡ i
  place_at i l h =
      let lv = r.low i l h in
      let hv = r.high i l h in
      one_place n p r (place_of p n (at p i)) i (place_low (at p i) lv hv) (place_high p n (at p i)) l h (at_place (at p i) lv hv)

-- ---- the inverse

-- the inverse has the place of v at v
pub inverse_at : (n : ℕ) (p : List ℕ) (v : ℕ) → 1 ≤ v → v ≤ n → at (inverse n p) v ≡ place_of p n v
unfolding inverse
inverse_at n p v l h = placed_at (place_of p n) n v l h

module _ (n : ℕ) (p : List ℕ) (r : Reordering n p) where
  -- the inverse and then p
  pub inverse_before : (v : ℕ) → 1 ≤ v → v ≤ n → at p (at (inverse n p) v) ≡ v
  inverse_before v l h = ap (at p) (inverse_at n p v l h) ∙ at_place n p r v l h

  -- p and then the inverse
  pub inverse_after : (i : ℕ) → 1 ≤ i → i ≤ n → at (inverse n p) (at p i) ≡ i
  inverse_after i l h = inverse_at n p (at p i) (r.low i l h) (r.high i l h) ∙ place_at n p r i l h

  -- the inverse of a reordering is one
  pub inverse_reordering : n ≤ 32 → Reordering n (inverse n p)
  unfolding inverse
  inverse_reordering h =
      placed_reordering n (place_of p n) h (place_low n p r) (λ v l m. place_high p n v)
      (λ v u l d m e.
      let same : v ≡ u = sym (at_place n p r v (omega arith) m) ∙ ap (at p) e ∙ at_place n p r u l (omega arith) in
      omega arith)

-- the inverse of a permitted arrangement is permitted
pub inverse_permitted : (n starts : ℕ) (p : List ℕ) → n ≤ 32 → Permitted n starts p → Permitted n starts (inverse n p)
inverse_permitted n starts p h a =
    record {
      reordering = inverse_reordering n p a.reordering h;
      in_block = λ v l m.
          let s = inverse_reordering n p a.reordering h in
          sym (a.in_block (at (inverse n p) v) (s.low v l m) (s.high v l m)) ∙ ap (block_of starts) (inverse_before n p a.reordering v l m);
    }
