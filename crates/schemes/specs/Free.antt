-- What a walk without memory reads: where a vertex stands in a beginning, the pair that a pair is the image of, and which pair comes first.
use Rattle.std.specs.Prelude.{ℕ, zero, suc, ◌≡◌, ◌⊎◌, Bool, false, List, eqb, length}
use Rattle.laws.specs.Each.{Each}
use Rattle.laws.specs.Test.{pick}
use Rattle.walk.specs.Walk.{Outcome}
use Rattle.walk.specs.Free.{Precedes, free}
use Rattle.beginnings.specs.Beginning.{at}
use Rattle.schemes.specs.Scheme.{Scheme, image, Listed}

-- the last of the places 1..n at which f has v, or 0
unfoldable pub place_of : (ℕ → ℕ) → ℕ → ℕ → ℕ
place_of f zero v = 0
place_of f (suc n) v = pick (eqb (f (suc n)) v) (suc n) (place_of f n v)

module _ {P : Type 0} (s : Scheme P) where
  -- the pair whose image under b is k: of the places of k's two vertices, 0 for one that b lacks
  abbrev pub source : List ℕ → P → P
  source b k = s.of_two (place_of (at b) (length b) (s.first k)) (place_of (at b) (length b) (s.second k))

  -- the test tells whether a listed pair is compared before another; one with a place 0 comes before none
  pub record Ordered (before : P → P → Bool) : Type 0 where
    pub precedes : Precedes (Listed s) s.pairs before
    pub blank : (u v : ℕ) → (u ≡ 0) ⊎ (v ≡ 0) → Each (λ k. before (s.of_two u v) k ≡ false) s.pairs

  -- the walk of b along ks without memory
  abbrev pub freely : (P → P → Bool) → (P → ℕ) → List ℕ → List P → Outcome P
  freely before v b ks = free s.same before (image s b) (source b) v ks
