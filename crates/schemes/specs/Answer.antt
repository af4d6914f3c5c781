-- What judging answers, and when each answer is right.
use Rattle.std.specs.Prelude.{ℕ, ◌≤◌, ◌<◌, ◌≡◌, List}
use Rattle.walk.specs.Walk.{Outcome, won}
use Rattle.beginnings.specs.Search.{Found, cut, none, first}
use Rattle.schemes.specs.Scheme.{Scheme}
use Rattle.schemes.specs.Judging.{walk_of, found, steps_for, extended, Certified, FirstCertified}

-- the answers: cut; none, with the steps; an arrangement with the pair at which it wins, and the steps
pub data Answer (P : Type 0) : Type 0 where
  cut_off : Answer P
  none_smaller : ℕ → Answer P
  smaller : List ℕ → Outcome P → ℕ → Answer P

module _ {P : Type 0} (n : ℕ) (s : Scheme P) (block : ℕ → ℕ) (v : P → ℕ) where
  unfoldable pub answer_for : Found → Answer P
  answer_for cut = cut_off
  answer_for (none m) = none_smaller m
  answer_for (first b m) = smaller (extended n s block b) (walk_of s v (extended n s block b)) m

  -- what judging answers
  unfoldable pub answer : ℕ → Answer P
  answer budget = answer_for (found n s block v budget)

  -- the right answers, by when they are right
  pub data InWords (budget : ℕ) : Answer P → Type 0 where
    budget_short : budget < steps_for n s block v → InWords budget cut_off
    no_certificate : steps_for n s block v ≤ budget → ((p : List ℕ) → ¬ Certified n s block v p) → InWords budget (none_smaller (steps_for n s block v))
    first_certificate : steps_for n s block v ≤ budget → {p : List ℕ} {k : P} → FirstCertified n s block v p → walk_of s v p ≡ won k
        → InWords budget (smaller p (won k) (steps_for n s block v))
