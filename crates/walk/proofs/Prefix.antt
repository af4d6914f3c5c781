-- The walk along two lists joined, and what it depends on.
use Prim.Native.Nat.{ℕ}
use mathlib.Core.Path.{◌≡◌, refl}
use mathlib.Core.Bool.{Bool}
use mathlib.Core.List.{List, [], ◌∷◌, ◌++◌}
use Rattle.laws.specs.Each.{Each, each_first, each_rest}
use Rattle.walk.specs.Walk.{and_then, Move, skips, wins, goes_on, drives_zero, drives_one, loses, move_at, ending, driven, walk}

module _ {P : Type 0} (same : P → P → Bool) where
  module _ (img : P → P) where
    -- the entries after the turns of ks
    unfoldable pub after : List P → (P → ℕ) → P → ℕ
    after [] v = v
    after (k ∷ ks) v = after ks (driven same (move_at same img v k) k (img k) v)

    -- the walk along xs ++ ys is the walk along xs where that is won or lost, else the walk along ys with what xs drove
    pub walk_prefix : (xs ys : List P) (v : P → ℕ) → walk same img (xs ++ ys) v ≡ and_then (walk same img xs v) (walk same img ys (after xs v))
    unfolding walk ending after and_then
    walk_prefix [] ys v = refl
    walk_prefix (k ∷ xs) ys v = at (move_at same img v k) (walk_prefix xs ys)
      where
        at : (m : Move) → ((w : P → ℕ) → walk same img (xs ++ ys) w ≡ and_then (walk same img xs w) (walk same img ys (after xs w)))
            → ending m k (walk same img (xs ++ ys) (driven same m k (img k) v))
            ≡ and_then (ending m k (walk same img xs (driven same m k (img k) v))) (walk same img ys (after xs (driven same m k (img k) v)))
        at skips go = go (driven same skips k (img k) v)
        at wins go = refl
        at goes_on go = go (driven same goes_on k (img k) v)
        at drives_zero go = go (driven same drives_zero k (img k) v)
        at drives_one go = go (driven same drives_one k (img k) v)
        at loses go = refl

  -- two arrangements with the same images of the pairs of ks have one walk along ks
  pub images_alike : (img jmg : P → P) (ks : List P) → Each (λ k. img k ≡ jmg k) ks → (v : P → ℕ) → walk same img ks v ≡ walk same jmg ks v
  unfolding walk
  images_alike img jmg [] h v = refl
  images_alike img jmg (k ∷ ks) h v =
      let e : img k ≡ jmg k = each_first (λ k. img k ≡ jmg k) h in
      rw (e, images_alike img jmg ks (each_rest (λ k. img k ≡ jmg k) h) (driven same (move_at same jmg v k) k (jmg k) v))
