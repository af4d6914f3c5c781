-- The pairs under an arrangement and its inverse, in the order that a mode names.
use Prim.Native.Nat.{ℕ, ◌≤◌}
use mathlib.Core.Path.{◌≡◌, ap₂, ◌∙◌}
use mathlib.Core.List.{List}
use Rattle.laws.specs.Each.{Each}
use Rattle.laws.specs.Pigeonhole.{Injects}
use Rattle.needed.specs.Settled.{Turned}
use Rattle.schemes.specs.Scheme.{Lawful}
use Rattle.schemes.proofs.Images.{two_kept, image_two, image_listed}
use Rattle.plain.specs.Plain.{same_pair, pair_of_two, image, compared_in, by_mode}
use Rattle.plain.specs.Before.{before_in}
use Rattle.plain.proofs.Plain.{same_pair_tells}
use Rattle.plain.proofs.Modes.{mode_lawful, mode_ordered}
use Rattle.arrangements.specs.Arrangement.{at, Reordering}
use Rattle.composing.specs.Composed.{inverse}
use Rattle.composing.proofs.Composing.{inverse_before, inverse_after, inverse_reordering}

module _ (mode n : ℕ) where
  lawful : Lawful n (by_mode mode n)
  lawful = mode_lawful mode n

  injects : (p : List ℕ) → Reordering n p → Injects n n (at p)
  injects p r = record { low = r.low; high = r.high; once = r.once }

  -- images under what undoes y on the places undo those under y
  undone : (x y : List ℕ) → Reordering n y → ((i : ℕ) → 1 ≤ i → i ≤ n → at x (at y i) ≡ i) → Each (λ k. image x (image y k) ≡ k) (compared_in mode n)
  undone x y r e k m =
      let t = lawful.places k m in
      image_two lawful x (at y k.row) (at y k.column) (two_kept n (at y) (injects y r) t)
      ∙ ap₂ pair_of_two (e k.row t.low t.high) (e k.column t.low' t.high') ∙ lawful.spelt k m

  pub mode_turned : (p : List ℕ) → n ≤ 32 → Reordering n p → Turned same_pair (before_in mode) (image p) (image (inverse n p)) (compared_in mode n)
  mode_turned p high r =
      let back = inverse_reordering n p r high in
      record {
        tells = same_pair_tells;
        once = lawful.once;
        order = (mode_ordered mode n).precedes;
        image_in = image_listed lawful p (injects p r);
        source_in = image_listed lawful (inverse n p) (injects (inverse n p) back);
        image_source = undone p (inverse n p) back (inverse_before n p r);
        source_image = undone (inverse n p) p r (inverse_after n p r);
      }
