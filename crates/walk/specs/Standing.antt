-- Standing pairs, which need no driven value.
use Rattle.std.specs.Prelude.{ℕ, ◌≡◌, ◌⊎◌, List, ◌∷◌, ◌++◌}
use Rattle.laws.specs.Each.{Each}

module _ {P : Type 0} (v : P → ℕ) (img : P → P) where
  -- a is 1, or b is 0, or the pair is its own image
  abbrev pub Holds : P → Type 0
  Holds k = (v k ≡ 1) ⊎ (v (img k) ≡ 0) ⊎ (img k ≡ k)

  -- a is 1 and b is 0
  abbrev pub Wins : P → Type 0
  Wins k = (v k ≡ 1) × (v (img k) ≡ 0)

  -- k is the standing pair of ks: the first at which a is 1 and b is 0, where every pair before it holds
  pub record StandsIn (ks : List P) (k : P) : Type 0 where
    pub before : List P
    pub after : List P
    pub split : ks ≡ before ++ k ∷ after
    pub holding : Each Holds before
    pub none : Each (λ j. ¬ Wins j) before
    pub wins : Wins k
