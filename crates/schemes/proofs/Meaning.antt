-- A certificate is an arrangement under which every full drawing that has what is known has an earlier copy; and what breaks its
-- literals, or these as they are written, has one.
use Prim.Native.Nat.{ℕ}
use mathlib.Core.Path.{◌≡◌}
use mathlib.Core.Logic.{◌↔◌}
use mathlib.Core.List.{List, ◌∷◌, ◌++◌, map, Memᴰ}
use Rattle.laws.specs.Each.{Each}
use Rattle.laws.specs.Pigeonhole.{Injects}
use Rattle.walk.specs.Walk.{won}
use Rattle.beginnings.specs.Beginning.{at}
use Rattle.walk.proofs.Meaning.{Unbeaten, won_means, won_more}
use Rattle.walk.specs.Meeting.{only}
use Rattle.walk.proofs.Meeting.{met_within}
use Rattle.walk.specs.Clause.{Literal, pair_in, Breaks, BreaksClause}
use Rattle.walk.proofs.Broken.{clause_breaks, false_consistent}
use Rattle.needed.proofs.Enough.{literals_exactly, needed_met, needed_false, needed_sound, needed_each}
use Rattle.schemes.specs.Scheme.{Scheme, image, Listed, Lawful}
use Rattle.schemes.specs.Judging.{Arranges, FullOn, Has, copy_by, Comes, walk_of, literals_by, needed_by, written_by, Certified, EarlierCopy}
use Rattle.schemes.proofs.Images.{image_listed}

module _ {P : Type 0} {n : ℕ} {s : Scheme P} (lawful : Lawful n s) where
  -- the walk of an arrangement is won exactly where its copy of every full drawing that has what is known comes earlier
  pub walk_means : (v : P → ℕ) (p : List ℕ) → Injects n n (at p)
      → ((k : P) × (walk_of s v p ≡ won k)) ↔ ((H : P → ℕ) → FullOn s H → Has s v H → Comes s (copy_by s p H) H)
  unfolding walk_of
  walk_means v p r = won_means lawful.tells (Listed s) (image s p) s.pairs (λ k m. m) (image_listed lawful p r) v

  module _ (block : ℕ → ℕ) where
    -- a permitted arrangement is a certificate exactly where it gives every full drawing that has what is known an earlier copy
    pub certified_means : (v : P → ℕ) (p : List ℕ) → Arranges n block p
        → Certified n s block v p ↔ ((H : P → ℕ) → FullOn s H → Has s v H → EarlierCopy n s block H p)
    certified_means v p a = (
      λ c H f x. record { permitted = a; earlier = (walk_means v p a.reorders).0 (c.pair, c.wins) H f x },
      λ h. let w = (walk_means v p a.reorders).1 (λ H f x. (h H f x).earlier) in record { permitted = a; pair = w.0; wins = w.1 },
    )

    -- knowing more, it stays one
    pub certified_more : (v w : P → ℕ) (p : List ℕ) → Has s v w → Certified n s block v p → Certified n s block w p
    unfolding walk_of
    certified_more v w p x c =
        let r = won_more lawful.tells (Listed s) (image s p) s.pairs (λ k m. m) (image_listed lawful p c.permitted.reorders) v w x (c.pair, c.wins) in
        record { permitted = c.permitted; pair = r.0; wins = r.1 }

  -- ---- the clause, by any numbering that has every compared pair

  module _ (numbering : List P) (all : Each (λ k. Memᴰ k numbering) s.pairs) (v : P → ℕ) (p : List ℕ) (r : Injects n n (at p)) where
    closed : Each (λ k. Listed s (image s p k)) s.pairs
    closed = image_listed lawful p r

    -- its literals are false in v and of compared pairs
    pub needed_false_in : Breaks (needed_by s numbering v p) v
    unfolding needed_by
    needed_false_in = needed_false lawful.tells (Listed s) (image s p) s.pairs (λ k m. m) closed v numbering all

    pub needed_literals : Each (λ l. Memᴰ l (literals_by s numbering v p)) (needed_by s numbering v p)
    unfolding needed_by literals_by
    needed_literals = needed_met lawful.tells (Listed s) (image s p) s.pairs (λ k m. m) closed v numbering all

    pub needed_listed : Each (λ l. Listed s (pair_in l)) (needed_by s numbering v p)
    unfolding literals_by
    needed_listed l m =
        met_within s.same (image s p) (Listed s) s.pairs (λ k i. i) closed v (pair_in l)
        ((literals_exactly lawful.tells v (image s p) s.pairs numbering l).0 (needed_literals l m)).1

    -- so a drawing breaks what is written exactly where it breaks the literals
    pub written_breaks : (H : P → ℕ) → Breaks (needed_by s numbering v p) H ↔ BreaksClause numbering (written_by s numbering v p) H
    unfolding written_by
    written_breaks H =
        clause_breaks lawful.tells (needed_by s numbering v p) numbering H (false_consistent (needed_by s numbering v p) v needed_false_in) (λ l m. all (pair_in l) (needed_listed l m))

    -- without any one of them some full drawing breaks all others and its copy does not come earlier
    pub needed_spares : (xs : List (Literal P)) (l : Literal P) (ys : List (Literal P)) → needed_by s numbering v p ≡ xs ++ l ∷ ys
        → Unbeaten lawful.tells (Listed s) (image s p) s.pairs (only s.same (map pair_in (xs ++ ys)) v)
    unfolding needed_by
    needed_spares xs l ys e = needed_each lawful.tells (Listed s) (image s p) s.pairs (λ k m. m) closed v numbering all xs l ys e

  -- a full drawing that breaks the literals has by the certificate an earlier copy
  pub sound_needed : (numbering : List P) → Each (λ k. Memᴰ k numbering) s.pairs → (block : ℕ → ℕ) (v : P → ℕ) (p : List ℕ) → Certified n s block v p
      → (H : P → ℕ) → FullOn s H → Breaks (needed_by s numbering v p) H → EarlierCopy n s block H p
  unfolding walk_of needed_by
  sound_needed numbering all block v p c H full b =
      record {
        permitted = c.permitted;
        earlier = needed_sound lawful.tells (Listed s) (image s p) s.pairs (λ k m. m) (image_listed lawful p c.permitted.reorders) v numbering all (c.pair, c.wins) H full b;
      }
