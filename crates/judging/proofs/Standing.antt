-- Standing pairs, for who reads certificates by them: a standing pair makes a certificate, and on a fully drawn graph it is the winning pair.
use mathlib.Core.Logic.{◌↔◌}
use mathlib.Core.List.{List}
use mathlib.Core.Path.{◌≡◌}
use Prim.Native.Nat.{ℕ}
use Rattle.walk.specs.Walk.{won}
use Rattle.walk.specs.Standing.{StandsIn}
use Rattle.walk.proofs.Standing.{standing_won, full_standing}
use Rattle.schemes.specs.Scheme.{Listed}
use Rattle.schemes.specs.Judging.{walk_of}
use Rattle.schemes.proofs.Images.{image_listed}
use Rattle.plain.specs.Plain.{image, compared_in, by_mode}
use Rattle.plain.proofs.Plain.{same_pair_tells}
use Rattle.plain.proofs.Modes.{mode_lawful}
use Rattle.graph.specs.declared.Graph.{Graph}
use Rattle.graph.specs.WellFormed.{WellFormed}
use Rattle.arrangements.specs.Arrangement.{Permitted}
use Rattle.pairs.specs.Pairs.{Pair}
use Rattle.graph.specs.Counts.{entry_at}
use Rattle.judging.specs.Order.{FullyDrawn}
use Rattle.judging.specs.Judging.{walk_all}
use Rattle.judging.specs.Certificates.{Certified}
use Rattle.judging.proofs.Arrangements.{permitted_arranges}
use Rattle.judging.proofs.Meaning.{certified_won}

-- a permitted arrangement with a standing pair is a certificate
pub standing_certified : (mode : ℕ) (g : Graph) → WellFormed g → (p : List ℕ) → Permitted g.order g.starts p → (k : Pair) → StandsIn (entry_at g) (image p) (compared_in mode g.order) k → Certified mode g p
unfolding walk_of
standing_certified mode g w p a k s =
    (certified_won mode g w p a).1
    (standing_won same_pair_tells (Listed (by_mode mode g.order)) (image p) (compared_in mode g.order) (λ j m. m) (image_listed (mode_lawful mode g.order) p (permitted_arranges g.order g.starts p a).reorders) (entry_at g) k s)

-- on a fully drawn graph the winning pair is the standing one
pub drawn_standing : (mode : ℕ) (g : Graph) → FullyDrawn g → (p : List ℕ) (k : Pair) → (walk_all mode g p ≡ won k) ↔ StandsIn (entry_at g) (image p) (compared_in mode g.order) k
unfolding walk_of
drawn_standing mode g d p k =
    full_standing same_pair_tells (entry_at g) (image p) (compared_in mode g.order) (λ j m. d.known j.row j.column) (λ j m. d.known (image p j).row (image p j).column) k
