-- What judging answers, in words: cut, none or the first certificate, each exactly where it should.
use Prim.Native.Nat.{ℕ, ◌≤◌}
use mathlib.Core.Path.{◌≡◌, refl, sym, ap, subst, ◌∙◌}
use mathlib.Core.List.{List}
use Rattle.walk.specs.Walk.{Outcome, won}
use Rattle.beginnings.specs.Search.{Found, cut, none, first}
use Rattle.beginnings.proofs.Steps.{cut_exactly, none_exactly, first_exactly}
use Rattle.schemes.specs.Scheme.{Scheme, Lawful}
use Rattle.schemes.specs.Judging.{walk_of, judged, found, steps_for, extended, FirstCertified}
use Rattle.schemes.proofs.Certificates.{one_first, none_at, finds_none, finds_first, first_at, first_pair_lem}
use Rattle.schemes.specs.Answer.{Answer, none_smaller, smaller, answer_for, answer, InWords, budget_short, no_certificate, first_certificate}

module _ {P : Type 0} {n : ℕ} {s : Scheme P} (lawful : Lawful n s) (low : 1 ≤ n) (block : ℕ → ℕ) (v : P → ℕ) (budget : ℕ) where
  -- judging answers so
  pub answered : InWords n s block v budget (answer n s block v budget)
  unfolding answer answer_for found
  answered = go (found n s block v budget) refl
    where
      right : (p : List ℕ) (k : P) (m : ℕ) → walk_of s v p ≡ won k → m ≡ steps_for n s block v → steps_for n s block v ≤ budget → FirstCertified n s block v p
          → InWords n s block v budget (smaller p (walk_of s v p) m)
      right p k m w x l f =
          subst (λ (i : ℕ). InWords n s block v budget (smaller p (walk_of s v p) i)) (sym x)
          (subst (λ (o : Outcome P). InWords n s block v budget (smaller p o (steps_for n s block v))) (sym w) (first_certificate l f w))

      go : (f : Found) → found n s block v budget ≡ f → InWords n s block v budget (answer_for n s block v f)
      go cut e = budget_short ((cut_exactly n block (judged s v) budget).0 e)
      go (none m) e =
          let x = (none_exactly n block (judged s v) budget m).0 e in
          subst (λ (i : ℕ). InWords n s block v budget (none_smaller i)) (sym x.1) (no_certificate x.0 (none_at lawful block v low budget m e))
      go (first b m) e =
          let x = (first_exactly n block (judged s v) budget b m).0 e in
          let k = first_pair_lem lawful block v low budget b m e in
          right (extended n s block b) k.0 m k.2 x.1 x.0 (first_at lawful block v low budget b m e)

  -- and no other answer is right
  pub answer_alone : {a : Answer P} → InWords n s block v budget a → a ≡ answer n s block v budget
  unfolding answer answer_for found
  answer_alone (budget_short l) = rw ((cut_exactly n block (judged s v) budget).1 l)
  answer_alone (no_certificate l h) = rw (finds_none lawful block v low budget h l)
  answer_alone (first_certificate l {p} {k} f w) =
      let b = finds_first lawful block v low budget p f.certified l in
      let same : p ≡ extended n s block b.0 = one_first lawful block v p (extended n s block b.0) f (first_at lawful block v low budget b.0 (steps_for n s block v) b.1) in
      ap (λ (o : Outcome P). smaller p o (steps_for n s block v)) (sym w)
      ∙ ap (λ (q : List ℕ). smaller q (walk_of s v q) (steps_for n s block v)) same ∙ sym (ap (answer_for n s block v) b.1)
