-- Lists with commas between.
use Rattle.std.proofs.Common.{ℕ, suc, ◌+◌, ◌≤◌, ◌<◌, ◌≡◌, List, [], ◌∷◌, length, get_or, drop, arith, add-one, drop-cons, drop_of_length-le}
use Rattle.text.specs.declared.writer.Writer.{Writer}
use Rattle.text.specs.Lists.{others, listed}
use Rattle.text.specs.Writer.{Puts}
use Rattle.text.proofs.Writers.{Left, puts_append, left_less, left_none}

module _ {A : Type 0} (f : A → List ℕ) where
  -- an empty list
  pub listed_none : (p q : Writer) (l : List A) → length l ≡ 0 → Puts p (45 ∷ []) q → Puts p (listed f l) q
  unfolding listed
  listed_none p q [] h e = e
  listed_none p q (x ∷ l) h e = absurd (omega arith)

  -- the first of a list, and the others
  pub listed_some : (p q r : Writer) (x : A) (l rest : List A) → l ≡ x ∷ rest → Puts p (f x) q → Puts q (others f rest) r → Puts p (listed f l) r
  unfolding listed
  listed_some p q r x l rest e a b = rw e (puts_append a b)

  -- one more
  pub others_less : (s h k m : Writer) (text : List ℕ) (l : List A) (i : ℕ) (x : A) → Left s text h (others f (drop i l)) → i < length l → x ≡ get_or l i x → Puts h (44 ∷ []) k → Puts k (f x) m → Left s text m (others f (drop (i + 1) l))
  unfolding others
  others_less s h k m text l i x e b g c p =
      rw (add-one i) (left_less s h m text (44 ∷ f x) (others f (drop (suc i) l)) (rw (drop-cons l i x b, ← g) at e) (puts_append c p))

  -- no more
  pub others_none : (s h : Writer) (text : List ℕ) (l : List A) (i : ℕ) → Left s text h (others f (drop i l)) → length l ≤ i → Puts s text h
  unfolding others
  others_none s h text l i e b = left_none s h text (rw (drop_of_length-le l b) at e)
