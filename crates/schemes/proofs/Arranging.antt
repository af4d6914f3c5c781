-- Arrangements: those of length n are the beginnings of that length, and they compose.
use Prim.Native.Nat.{ℕ, ◌≤◌}
use native.Mathlib.Omega.{arith}
use mathlib.Core.Path.{◌≡◌, sym, ap, ◌∙◌}
use mathlib.Core.List.{List}
use lib.ListN.{length}
use Rattle.laws.specs.UpToLaws.{list_at}
use Rattle.beginnings.specs.Beginning.{at, Beginning}
use Rattle.schemes.specs.Judging.{Arranges, identity, composed, first_of}
use Rattle.schemes.proofs.Images.{one_place}

module _ (n : ℕ) (block : ℕ → ℕ) where
  -- a beginning of length n is one
  pub beginning_arranges : (p : List ℕ) → Beginning n block p → length p ≡ n → Arranges n block p
  beginning_arranges p b e =
      record {
        reorders = record {
          low = λ i l h. b.low i l (omega arith);
          high = λ i l h. b.high i l (omega arith);
          once = λ i j l d h. b.once i j l d (omega arith);
        };
        in_block = λ i l h. b.in_block i l (omega arith);
      }

  -- and one of length n is such a beginning
  pub arranges_beginning : 1 ≤ n → (p : List ℕ) → Arranges n block p → length p ≡ n → Beginning n block p
  arranges_beginning low p a e =
      record {
        begun = omega arith;
        fits = omega arith;
        low = λ i l h. a.reorders.low i l (omega arith);
        high = λ i l h. a.reorders.high i l (omega arith);
        once = λ i j l d h. a.reorders.once i j l d (omega arith);
        in_block = λ i l h. a.in_block i l (omega arith);
      }

  -- what agrees with one at the places 1..n is one
  pub arranges_alike : (p q : List ℕ) → ((i : ℕ) → 1 ≤ i → i ≤ n → at q i ≡ at p i) → Arranges n block p → Arranges n block q
  arranges_alike p q e a =
      record {
        reorders = record {
          low = λ i l h. rw (e i l h) (a.reorders.low i l h);
          high = λ i l h. rw (e i l h) (a.reorders.high i l h);
          once = λ i j l d h x. a.reorders.once i j l d h (sym (e i (omega arith) h) ∙ x ∙ e j l (omega arith));
        };
        in_block = λ i l h. ap block (e i l h) ∙ a.in_block i l h;
      }

  -- so its first n places are
  pub first_arranges : (p : List ℕ) → Arranges n block p → Arranges n block (first_of n p)
  first_arranges p a = arranges_alike p (first_of n p) (λ i l h. list_at (λ i. at p i) n i 0 l h) a

  pub identity_arranges : Arranges n block (identity n)
  identity_arranges =
      let e : (i : ℕ) → 1 ≤ i → i ≤ n → at (identity n) i ≡ i = λ i l h. list_at (λ i. i) n i 0 l h in
      record {
        reorders = record {
          low = λ i l h. rw (e i l h) l;
          high = λ i l h. rw (e i l h) h;
          once = λ i j l d h x. omega (arith, e i (omega arith) h, e j l (omega arith));
        };
        in_block = λ i l h. ap block (e i l h);
      }

  pub composed_arranges : (p q : List ℕ) → Arranges n block p → Arranges n block q → Arranges n block (composed n p q)
  composed_arranges p q a b =
      let e : (i : ℕ) → 1 ≤ i → i ≤ n → at (composed n p q) i ≡ at p (at q i) = λ i l h. list_at (λ i. at p (at q i)) n i 0 l h in
      let r = a.reorders in
      let t = b.reorders in
      record {
        reorders = record {
          low = λ i l h. rw (e i l h) (r.low (at q i) (t.low i l h) (t.high i l h));
          high = λ i l h. rw (e i l h) (r.high (at q i) (t.low i l h) (t.high i l h));
          once = λ i j l d h x.
              let li : 1 ≤ i = omega arith in
              let hj : j ≤ n = omega arith in
              t.once i j l d h (one_place n (at p) r (at q i) (at q j) (t.low i li h) (t.high i li h) (t.low j l hj) (t.high j l hj) (sym (e i li h) ∙ x ∙ e j l hj));
        };
        in_block = λ i l h. ap block (e i l h) ∙ a.in_block (at q i) (t.low i l h) (t.high i l h) ∙ b.in_block i l h;
      }
