-- What tests and choices by a test come to.
use Rattle.std.specs.Prelude.{◌≡◌, refl, ◌⊎◌, Bool, true, false}
use Rattle.std.proofs.Common.{sym, ◌∙◌, inl, inr, true≢false}
use Rattle.std.proofs.lemmas.Bool.{false≢true}
use Rattle.laws.specs.Test.{both, either, pick, unless}

-- a test holds or fails
pub holds_or_fails : (t : Bool) → (t ≡ true) ⊎ (t ≡ false)
holds_or_fails true = inl refl
holds_or_fails false = inr refl

-- it does not both hold and fail
pub not_both_ways : (t : Bool) → t ≡ true → t ≡ false → ⊥
not_both_ways true e d = true≢false d
not_both_ways false e d = false≢true e

-- a test that cannot hold fails
pub fails : (t : Bool) → (t ≡ true → ⊥) → t ≡ false
fails true h = absurd (h refl)
fails false h = refl

-- a test that cannot fail holds
pub holds : (t : Bool) → (t ≡ false → ⊥) → t ≡ true
holds true h = refl
holds false h = absurd (h refl)

-- two tests that hold in the same cases are one
pub same_test : (s t : Bool) → (s ≡ true → t ≡ true) → (t ≡ true → s ≡ true) → s ≡ t
same_test true t f g = sym (f refl)
same_test false true f g = g refl
same_test false false f g = refl

-- ---- both

-- where both hold, the first does
pub both_first : (a b : Bool) → both a b ≡ true → a ≡ true
unfolding both
both_first true b e = refl
both_first false b e = e

-- where both hold, the second does
pub both_second : (a b : Bool) → both a b ≡ true → b ≡ true
unfolding both
both_second true b e = e
both_second false b e = absurd (false≢true e)

-- both hold where each does
pub both_hold : (a b : Bool) → a ≡ true → b ≡ true → both a b ≡ true
unfolding both
both_hold true b e d = d
both_hold false b e d = e

-- they don't where the first fails
pub first_fails : (a b : Bool) → a ≡ false → both a b ≡ false
unfolding both
first_fails true b e = absurd (true≢false e)
first_fails false b e = refl

-- nor where the second fails
pub second_fails : (a b : Bool) → b ≡ false → both a b ≡ false
unfolding both
second_fails true b e = e
second_fails false b e = refl

-- after a first test that holds, the second decides
pub both_after : (a b : Bool) → a ≡ true → both a b ≡ b
unfolding both
both_after true b e = refl
both_after false b e = absurd (false≢true e)

-- ---- either

-- one holds where the first does
pub either_first : (a b : Bool) → a ≡ true → either a b ≡ true
unfolding either
either_first true b e = refl
either_first false b e = absurd (false≢true e)

-- or the second
pub either_second : (a b : Bool) → b ≡ true → either a b ≡ true
unfolding either
either_second true b e = refl
either_second false b e = e

-- where one of them holds, it is the first or the second
pub one_holds : (a b : Bool) → either a b ≡ true → (a ≡ true) ⊎ (b ≡ true)
unfolding either
one_holds true b e = inl refl
one_holds false b e = inr e

-- ---- a choice at a known test

-- the first, where the test holds
pub pick_true : {A : Type 0} (t : Bool) (x y : A) → t ≡ true → pick t x y ≡ x
unfolding pick
pick_true true x y e = refl
pick_true false x y e = absurd (false≢true e)

-- the second, where it fails
pub pick_false : {A : Type 0} (t : Bool) (x y : A) → t ≡ false → pick t x y ≡ y
unfolding pick
pick_false true x y e = absurd (true≢false e)
pick_false false x y e = refl

-- the rest, where the test holds
pub unless_true : {A : Type 0} (t : Bool) (refusal rest : A) → t ≡ true → unless t refusal rest ≡ rest
unfolding unless
unless_true true refusal rest e = refl
unless_true false refusal rest e = absurd (false≢true e)

-- the refusal, where it fails
pub unless_false : {A : Type 0} (t : Bool) (refusal rest : A) → t ≡ false → unless t refusal rest ≡ refusal
unfolding unless
unless_false true refusal rest e = absurd (true≢false e)
unless_false false refusal rest e = refl

-- an answer r, where a result b of the test is known: the refusal, or what comes after it
pub refused : {A : Type 0} (b t : Bool) (r refusal rest : A) → b ≡ t → b ≡ false → r ≡ refusal → r ≡ unless t refusal rest
refused b t r refusal rest e h q = q ∙ sym (unless_false t refusal rest (sym e ∙ h))

pub passed : {A : Type 0} (b t : Bool) (r refusal rest : A) → b ≡ t → b ≡ true → r ≡ rest → r ≡ unless t refusal rest
passed b t r refusal rest e h q = q ∙ sym (unless_true t refusal rest (sym e ∙ h))

-- a result r of two tests, where a result a of the first is known
pub first_failed : (a s t : Bool) → a ≡ s → a ≡ false → false ≡ both s t
first_failed a s t e h = sym (first_fails s t (sym e ∙ h))

pub first_refused : {A : Type 0} (a s t : Bool) (r refusal rest : A) → a ≡ s → a ≡ false → r ≡ refusal → r ≡ unless (both s t) refusal rest
first_refused a s t r refusal rest e h q = refused false (both s t) r refusal rest (first_failed a s t e h) refl q

pub first_held : (a s t r : Bool) → a ≡ s → a ≡ true → r ≡ t → r ≡ both s t
first_held a s t r e h q = q ∙ sym (both_after s t (sym e ∙ h))
