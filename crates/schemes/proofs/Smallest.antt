-- Smallest: on a full drawing an arrangement is a certificate exactly where its copy comes earlier, so "none" says that no permitted
-- copy comes earlier; and such a drawing breaks no clause.
use Prim.Native.Nat.{ℕ, ◌≤◌}
use mathlib.Core.Path.{◌≡◌, refl, sym}
use mathlib.Core.Logic.{◌↔◌}
use mathlib.Core.List.{List, Memᴰ}
use Rattle.laws.specs.Each.{Each}
use Rattle.walk.specs.Clause.{Breaks}
use Rattle.beginnings.specs.Search.{none}
use Rattle.schemes.specs.Scheme.{Scheme, image, Lawful}
use Rattle.schemes.specs.Judging.{FullOn, copy_by, needed_by, found, steps_for, Certified, EarlierCopy, Smallest}
use Rattle.schemes.proofs.Images.{image_listed}
use Rattle.schemes.proofs.Meaning.{certified_means, sound_needed}
use Rattle.schemes.proofs.Certificates.{none_at, finds_none}
use Rattle.walk.proofs.Order.{earlier_alike}

module _ {P : Type 0} {n : ℕ} {s : Scheme P} (lawful : Lawful n s) (block : ℕ → ℕ) where
  -- what is earlier by p in a drawing is so in one that agrees with it
  pub earlier_copy_alike : (H K : P → ℕ) → Each (λ k. K k ≡ H k) s.pairs → (p : List ℕ) → EarlierCopy n s block H p → EarlierCopy n s block K p
  earlier_copy_alike H K e p c =
      record {
        permitted = c.permitted;
        earlier = earlier_alike s.pairs (copy_by s p H) H (copy_by s p K) K (λ k m. e (image s p k) (image_listed lawful p c.permitted.reorders k m)) e c.earlier;
      }

  -- on a full drawing an arrangement is a certificate exactly where its copy comes earlier
  pub full_certified : (H : P → ℕ) → FullOn s H → (p : List ℕ) → Certified n s block H p ↔ EarlierCopy n s block H p
  full_certified H f p = (
    λ c. (certified_means lawful block H p c.permitted).0 c H f (λ k m l. refl),
    λ c. (certified_means lawful block H p c.permitted).1 (λ K g x. earlier_copy_alike H K (λ k m. x k m (f k m)) p c),
  )

  -- so with budget enough "none" says that no permitted copy comes earlier, and nothing else does
  pub none_smallest : 1 ≤ n → (H : P → ℕ) → FullOn s H → (budget : ℕ) → steps_for n s block H ≤ budget
      → (found n s block H budget ≡ none (steps_for n s block H)) ↔ Smallest n s block H
  none_smallest low H f budget l = (
    λ e p c. none_at lawful block H low budget (steps_for n s block H) e p ((full_certified H f p).1 c),
    λ least. finds_none lawful block H low budget (λ p c. least p ((full_certified H f p).0 c)) l,
  )

  -- a drawing that agrees with a smallest one is smallest
  pub smallest_alike : (H K : P → ℕ) → Each (λ k. K k ≡ H k) s.pairs → Smallest n s block H → Smallest n s block K
  smallest_alike H K e least p c = least p (earlier_copy_alike K H (λ k m. sym (e k m)) p c)

  -- it breaks the clause of no certificate for the same scheme, order and blocks, by any numbering that has every compared pair
  pub smallest_unbroken : (numbering : List P) → Each (λ k. Memᴰ k numbering) s.pairs → (H : P → ℕ) → FullOn s H → Smallest n s block H
      → (v : P → ℕ) (p : List ℕ) → Certified n s block v p → ¬ Breaks (needed_by s numbering v p) H
  smallest_unbroken numbering all H f least v p c b = least p (sound_needed lawful numbering all block v p c H f b)
