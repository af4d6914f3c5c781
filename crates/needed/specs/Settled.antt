-- What unknown entries are driven to, and the literals that are needed, by which of two pairs comes first.
use Rattle.std.specs.Prelude.{ℕ, ◌≡◌, Bool, true, false, not, eqb, ltb}
use mathlib.Core.List.{List, ◌∷◌, ◌++◌, Memᴰ}
use Rattle.laws.specs.Each.{Each}
use Rattle.laws.specs.ListLaws.{NoRepeats}
use Rattle.laws.specs.Test.{both, either, pick}
use Rattle.walk.specs.Walk.{Tells, won, walk}
use Rattle.walk.specs.Free.{Precedes}
use Rattle.needed.specs.Enough.{is_won}

-- pairs, each once, whose images are among them, where src gives the pair that a pair is the image of, and the test tells which comes first
pub record Turned {P : Type 0} (same before : P → P → Bool) (img src : P → P) (ks : List P) : Type 0 where
  pub tells : Tells same
  pub once : NoRepeats ks
  pub order : Precedes (λ k. Memᴰ k ks) ks before
  pub image_in : Each (λ k. Memᴰ (img k) ks) ks
  pub source_in : Each (λ k. Memᴰ (src k) ks) ks
  pub image_source : Each (λ k. img (src k) ≡ k) ks
  pub source_image : Each (λ k. src (img k) ≡ k) ks

-- a walk along them that is won at w
pub record WonWalk {P : Type 0} (same before : P → P → Bool) (img src : P → P) (ks : List P) (v : P → ℕ) (w : P) : Type 0 where
  pub turned : Turned same before img src ks
  pub wins : walk same img ks v ≡ won w

-- a numbering of them, each once; the flag tells which of w and its image has the higher number: the image where it holds, else w
pub record NumberedBy {P : Type 0} (img : P → P) (ks : List P) (w : P) (image_last : Bool) (numbering : List P) : Type 0 where
  pub all : Each (λ k. Memᴰ k numbering) ks
  pub inside : Each (λ k. Memᴰ k ks) numbering
  pub once : NoRepeats numbering
  pub image_higher : image_last ≡ true → (us ys : List P) → numbering ≡ us ++ img w ∷ ys → ¬ Memᴰ w ys
  pub pair_higher : image_last ≡ false → (us ys : List P) → numbering ≡ us ++ w ∷ ys → ¬ Memᴰ (img w) ys

-- k comes before w; or it is w, unless that is left out
unfoldable pub up_to : {P : Type 0} → (P → P → Bool) → (without : Bool) → P → P → Bool
up_to before without w k = pick without (before k w) (not (before w k))

module _ {P : Type 0} (before : P → P → Bool) (src : P → P) where
  -- what an unknown entry at k is driven to when it is first met: 1 as an image, 0 at its own place
  unfoldable pub driven_to : P → ℕ
  driven_to k = pick (before (src k) k) 1 0

  -- v with every unknown entry at what it is driven to
  unfoldable pub settled : (P → ℕ) → P → ℕ
  settled v k = pick (ltb 1 (v k)) (driven_to k) (v k)

  module _ (v : P → ℕ) (w : P) (without_pair without_image : Bool) where
    -- the entry at k is needed to come to the winning pair w and to win there: a 1 that is met at its own place before it is met as an
    -- image, or a 0 that is met as an image before it is met at its own place. One may leave out the entry at w itself, or at its image
    unfoldable pub stays : P → Bool
    stays k =
        either (both (eqb (v k) 1) (both (before k (src k)) (up_to before without_pair w k)))
        (both (eqb (v k) 0) (both (before (src k) k) (up_to before without_image w (src k))))

    -- the drawing that knows only these
    unfoldable pub staying : P → ℕ
    staying k = pick (stays k) (v k) 2

-- ---- the two that may go

-- what may be dropped of these: the entry at w or that at its image, where the walk is won without it, and never both
module _ {P : Type 0} (same before : P → P → Bool) (img src : P → P) (ks : List P) (v : P → ℕ) (w : P) where
  -- the walk is won by the entries that stay
  unfoldable pub wins_by : (without_pair without_image : Bool) → Bool
  wins_by without_pair without_image = is_won (walk same img ks (staying before src v w without_pair without_image))

  -- the entry at the image of w is needed to come to w and to win there, and the walk is won without it
  unfoldable pub image_may : Bool
  image_may = both (stays before src v w false false (img w)) (wins_by false true)

  -- and that at w
  unfoldable pub pair_may : Bool
  pair_may = both (stays before src v w false false w) (wins_by true false)

  -- the one with the higher number is tried first, and the other where that one stays
  unfoldable pub image_goes : (image_last : Bool) → Bool
  image_goes image_last = both image_may (either image_last (not pair_may))

  unfoldable pub pair_goes : (image_last : Bool) → Bool
  pair_goes image_last = both pair_may (not (both image_last image_may))
