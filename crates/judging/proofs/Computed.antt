-- Walks and clauses of small graphs, computed; and that order 3 with the entries 1, unknown, 0 has the certificate 3, 1, 2.
use Prim.Native.Nat.{ℕ, ◌-◌}
use native.Mathlib.Omega.{arith}
use mathlib.Core.Path.{◌≡◌, refl}
use mathlib.Core.List.{List, [], ◌∷◌, map}
use lib.IntN.{pos, negsuc}
use lib.ListN.{get_or}
use Rattle.laws.specs.Test.{both, either, pick}
use Rattle.laws.specs.UpTo.{word_up_to, list_up_to, all_up_to, sum_up_to}
use Rattle.walk.specs.Walk.{won, move, ending, put, driven, walk}
use Rattle.walk.specs.Meeting.{meeting, met, listed, only, literal_at}
use Rattle.walk.specs.Meeting
use Rattle.walk.specs.Clause.{absent, present, pair_in, same_literal, among, numbered, clause_after, clause}
use Rattle.needed.specs.Kept.{kept}
use Rattle.needed.specs.Enough.{is_won, enough, literals, needed}
use Rattle.schemes.specs.Judging.{walk_of, literals_by, needed_by, written_by}
use Rattle.plain.specs.Plain.{same_pair, pair_of_two, image, compared_in}
use Rattle.graph.specs.declared.Graph.{Graph}
use Rattle.words.specs.Placed.{placed}
use Rattle.rows.specs.Rows.{mirrored}
use Rattle.graph.specs.Graph.{drawn}
use Rattle.graph.specs.Counts.{entry_at}
use Rattle.composing.specs.Composed.{place_of, inverse}
use Rattle.pairs.specs.Pairs.{pair, along_row, from_row, pairs, number}
use Rattle.judging.specs.Judging.{walk_all, literals_of, needed_of, clause_of, padded}
use mathlib.Core.Bool.{true}
use Rattle.pairs.specs.Vertices.{order_fits}
use Rattle.rows.specs.Fits.{pair_fits, row_fits, starts_fit}
use Rattle.graph.specs.WellFormed.{well_formed}
use Rattle.graph.proofs.Formed.{formed}
use Rattle.arrangements.specs.Arrangement.{is_new, place_fits, is_reordering, stays_in_block, is_permitted}
use Rattle.arrangements.proofs.Permits.{permitted}
use Rattle.judging.specs.Certificates.{Certified}
use Rattle.judging.proofs.Meaning.{certified_won}

-- the entries 0, 1, 1, 0, 0, 0, and an arrangement that isn't its own inverse: the two have different winning pairs and clauses, and of the
-- literals met some are dropped
abbrev drawing : Graph
drawing = drawn 4 1 (λ i j. get_or (0 ∷ 1 ∷ 1 ∷ 0 ∷ 0 ∷ 0 ∷ []) (number 4 i j - 1) 0)

abbrev turning : List ℕ
turning = padded (3 ∷ 2 ∷ 4 ∷ 1 ∷ [])

computed : (walk_all 1 drawing turning ≡ won (pair 1 3)) × (literals_of 1 drawing turning ≡ present (pair 1 2) ∷ absent (pair 1 3) ∷ present (pair 2 3) ∷ present (pair 3 4) ∷ [])
    × (clause_of 1 drawing turning ≡ negsuc 1 ∷ pos 4 ∷ pos 6 ∷ [])
    × (walk_all 1 drawing (inverse 4 turning) ≡ won (pair 1 4)) × (clause_of 1 drawing (inverse 4 turning) ≡ negsuc 1 ∷ pos 5 ∷ pos 6 ∷ [])
unfolding both either pick word_up_to list_up_to move ending put driven walk meeting met listed only literal_at Meeting.literals_of same_literal among numbered clause_after clause is_won enough kept literals needed placed mirrored drawn along_row from_row pairs compared_in place_of inverse same_pair pair_of_two padded walk_of literals_by needed_by written_by
computed = (refl, refl, refl, refl, refl)

-- at order 5 and the winning pair (1, 5), either of its two literals could be dropped, and not both: the higher number goes, and over what the
-- clause knows the walk wins at (2, 3)
abbrev either_drawn : Graph
either_drawn = drawn 5 1 (λ i j. get_or (2 ∷ 1 ∷ 2 ∷ 1 ∷ 0 ∷ 2 ∷ 0 ∷ 1 ∷ 2 ∷ 1 ∷ []) (number 5 i j - 1) 0)

abbrev either_turned : List ℕ
either_turned = padded (2 ∷ 1 ∷ 4 ∷ 5 ∷ 3 ∷ [])

either_dropped : (walk_all 1 either_drawn either_turned ≡ won (pair 1 5)) × (literals_of 1 either_drawn either_turned ≡ absent (pair 1 3) ∷ absent (pair 1 5) ∷ present (pair 2 3) ∷ present (pair 2 5) ∷ [])
    × (clause_of 1 either_drawn either_turned ≡ negsuc 1 ∷ negsuc 3 ∷ pos 7 ∷ [])
    × (walk same_pair (image either_turned) (pairs 5) (only same_pair (map pair_in (needed_of 1 either_drawn either_turned)) (entry_at either_drawn)) ≡ won (pair 2 3))
unfolding both either pick word_up_to list_up_to move ending put driven walk meeting met listed only literal_at Meeting.literals_of same_literal among numbered clause_after clause is_won enough kept literals needed placed mirrored drawn along_row from_row pairs compared_in same_pair pair_of_two padded walk_of literals_by needed_by written_by
either_dropped = (refl, refl, refl, refl)

-- the entries 1, unknown, 0, and the arrangement 3, 1, 2: (1, 3) is unknown, is driven to 1 by (1, 2), and wins against (2, 3)
abbrev half_drawn : Graph
half_drawn = drawn 3 1 (λ i j. get_or (1 ∷ 2 ∷ 0 ∷ []) (number 3 i j - 1) 0)

driven_computed : (walk_all 1 half_drawn (padded (3 ∷ 1 ∷ 2 ∷ [])) ≡ won (pair 1 3)) × (clause_of 1 half_drawn (padded (3 ∷ 1 ∷ 2 ∷ [])) ≡ negsuc 0 ∷ pos 3 ∷ [])
unfolding both either pick word_up_to list_up_to move ending put driven walk meeting met listed only literal_at Meeting.literals_of same_literal among numbered clause_after clause is_won enough kept literals needed placed mirrored drawn along_row from_row pairs compared_in same_pair pair_of_two padded walk_of literals_by needed_by written_by
driven_computed = (refl, refl)

half_formed : well_formed half_drawn ≡ true
unfolding both either pick word_up_to list_up_to all_up_to placed mirrored drawn order_fits starts_fit row_fits pair_fits well_formed
half_formed = refl

half_permitted : is_permitted 3 1 (padded (3 ∷ 1 ∷ 2 ∷ [])) ≡ true
unfolding both either pick all_up_to sum_up_to is_new place_fits is_reordering stays_in_block is_permitted padded
half_permitted = refl

-- so 3, 1, 2 is a certificate of it
pub half_certified : Certified 1 half_drawn (padded (3 ∷ 1 ∷ 2 ∷ []))
unfolding drawn
half_certified = (certified_won 1 half_drawn (formed half_drawn half_formed) (padded (3 ∷ 1 ∷ 2 ∷ [])) (permitted 3 1 (padded (3 ∷ 1 ∷ 2 ∷ [])) (omega arith) half_permitted)).1 (pair 1 3, driven_computed.0)
