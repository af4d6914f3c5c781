-- Where the pairs of the first m vertices come first, a permitted earlier copy of these is one of all vertices.
use Prim.Native.Nat.{ℕ, ◌≤◌, ◌<◌}
use native.Mathlib.Omega.{arith}
use mathlib.Core.Path.{◌≡◌, refl, sym, ap, ◌∙◌}
use mathlib.Core.List.{List, ◌∷◌, ◌++◌, append_assoc}
use lib.Dec.{leb}
use borrow.Author.Tests.{le-leb, lt-leb}
use Rattle.laws.specs.Compared.{by_below}
use Rattle.laws.specs.Each.{Each}
use Rattle.laws.specs.Test.{pick}
use Rattle.laws.specs.TestLaws.{pick_true, pick_false}
use Rattle.laws.specs.UpTo.{list_up_to}
use Rattle.laws.specs.UpToLaws.{list_at, list_length}
use lib.ListN.{length}
use Rattle.walk.specs.Earlier.{Earlier}
use Rattle.walk.proofs.Order.{earlier_alike}
use Rattle.beginnings.specs.Beginning.{at}
use Rattle.schemes.specs.Scheme.{Scheme, image, Lawful}
use Rattle.schemes.specs.Judging.{Arranges, copy_by, EarlierCopy}
use Rattle.schemes.proofs.Images.{image_alike}

-- what is earlier along the first pairs is so along all
earlier_more : {P : Type 0} (xs ys : List P) (x y : P → ℕ) → Earlier xs x y → Earlier (xs ++ ys) x y
earlier_more xs ys x y e =
    record {
      before = e.before;
      pair = e.pair;
      after = e.after ++ ys;
      split = ap (λ ks. ks ++ ys) e.split ∙ append_assoc e.before (e.pair ∷ e.after) ys;
      agree = e.agree;
      zero_here = e.zero_here;
      one_there = e.one_there;
    }

-- an arrangement of 1..m that leaves the vertices after m
abbrev pub widened : ℕ → ℕ → List ℕ → List ℕ
widened m n p = list_up_to (λ i. pick (leb i m) (at p i) i) n

module _ (m n : ℕ) (le : m ≤ n) (p : List ℕ) where
  pub widened_length : length (widened m n p) ≡ n
  widened_length = list_length (λ i. pick (leb i m) (at p i) i) n

  widened_first : (i : ℕ) → 1 ≤ i → i ≤ m → at (widened m n p) i ≡ at p i
  widened_first i l h = list_at (λ i. pick (leb i m) (at p i) i) n i 0 l (omega arith) ∙ pick_true (leb i m) (at p i) i (le-leb i m h)

  widened_rest : (i : ℕ) → 1 ≤ i → m < i → i ≤ n → at (widened m n p) i ≡ i
  widened_rest i l h k = list_at (λ i. pick (leb i m) (at p i) i) n i 0 l k ∙ pick_false (leb i m) (at p i) i (lt-leb i m h)

  -- it is permitted for n, in blocks for which p is permitted for m
  widened_arranges : (block : ℕ → ℕ) → Arranges m block p → Arranges n block (widened m n p)
  widened_arranges block a =
      record {
        reorders = record {
          low = λ i l h. by_below m i (λ (d : m < i). rw (widened_rest i l d h) l) (λ (d : i ≤ m). rw (widened_first i l d) (a.reorders.low i l d));
          high = λ i l h. by_below m i (λ (d : m < i). rw (widened_rest i l d h) h) (λ (d : i ≤ m). let w = widened_first i l d in let u = a.reorders.high i l d in omega arith);
          once = λ i j l d h e.
              by_below m i
              (λ (c : m < i).
              let wi = widened_rest i (omega arith) c h in
              by_below m j (λ (f : m < j). let wj = widened_rest j l f (omega arith) in omega arith)
              (λ (f : j ≤ m). let wj = widened_first j l f in let u = a.reorders.high j l f in omega arith))
              (λ (c : i ≤ m). a.reorders.once i j l d c (sym (widened_first i (omega arith) c) ∙ e ∙ widened_first j l (omega arith)));
        };
        in_block = λ i l h.
            by_below m i (λ (d : m < i). ap block (widened_rest i l d h)) (λ (d : i ≤ m). ap block (widened_first i l d) ∙ a.in_block i l d);
      }

-- s is for order n and t for order m, they have the same images, and t's pairs come first in s
pub earlier_widened : {P : Type 0} {m n : ℕ} {s t : Scheme P} → Lawful m t → m ≤ n → ((p : List ℕ) → Each (λ k. image s p k ≡ image t p k) t.pairs) → (rest : List P) → s.pairs ≡ t.pairs ++ rest
    → (block : ℕ → ℕ) (H : P → ℕ) (p : List ℕ) → EarlierCopy m t block H p → EarlierCopy n s block H (widened m n p)
earlier_widened {m} {n} {s} {t} small le alike rest split block H p c =
    record {
      permitted = widened_arranges m n le p block c.permitted;
      earlier = rw split (
          earlier_more t.pairs rest (copy_by s (widened m n p) H) H
          (earlier_alike t.pairs (copy_by t p H) H (copy_by s (widened m n p) H) H (λ k i. ap H (alike (widened m n p) k i ∙ image_alike small (widened m n p) p (widened_first m n le p) k i)) (λ k i. refl) c.earlier)
          );
    }
