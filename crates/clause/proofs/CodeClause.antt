-- What the code that writes a literal comes to.
use Prim.Native.Nat.{ℕ, zero, suc, ◌+◌, ◌≤◌, ◌<◌}
use native.Mathlib.Omega.{arith}
use mathlib.Core.Path.{◌≡◌, sym, ◌∙◌}
use mathlib.Core.Logic.{◌≢◌}
use mathlib.Core.List.{List, [], ◌∷◌, ◌++◌, append_assoc, append-nil}
use lib.IntN.{ℤ, pos, neg_ℤ, ◌-ℤ◌, +ℤ_idl}
use lib.ListN.{length, set, take, drop, take-append-drop}
use lib.Seq.{set_split}
use mir.Syntax.{w32}
use mir.Val.{SFits, to_z, of_z}
use mir.Facts.{to_z_pos, to_z-of_z}
use borrow.Author.Tests.{eq-eqb, ne_eqb}
use Rattle.walk.specs.Clause.{numbered}
use Rattle.clause.specs.Clauses.{written_for, Wrote}

-- a pair's number and its negative are what is stored for them
module _ (m : ℕ) (small : m ≤ 496) where
  as_signed : to_z w32 m ≡ pos m
  as_signed = to_z_pos w32 (omega arith)

  negated : pos 0 -ℤ to_z w32 m ≡ neg_ℤ (pos m)
  negated = rw as_signed (+ℤ_idl (neg_ℤ (pos m)))

  pub negated_fits : SFits w32 (pos 0 -ℤ to_z w32 m)
  negated_fits = rw negated (fits m small)
    where
      fits : (k : ℕ) → k ≤ 496 → SFits w32 (neg_ℤ (pos k))
      fits zero h = record { sfits = omega arith }
      fits (suc k) h = record { sfits = omega arith }

  stored : to_z w32 (of_z w32 (pos 0 -ℤ to_z w32 m)) ≡ neg_ℤ (pos m)
  stored = to_z-of_z negated_fits ∙ negated

module _ (buffer : List ℤ) (count m kind : ℕ) where
  -- the buffer with z after the first count literals
  set_there : (z : ℤ) → count < length buffer → set buffer count z ≡ take count buffer ++ (z ∷ []) ++ drop (count + 1) buffer
  set_there z h =
      let s : count + 1 ≡ suc count = omega arith in
      rw s (set_split buffer count z h ∙ sym (append_assoc (take count buffer) (z ∷ []) (drop (suc count) buffer)))

  -- kind 1 puts -m there
  pub puts_not : kind ≡ 1 → count < length buffer → m ≤ 496 → Wrote (written_for kind m) buffer count (set buffer count (to_z w32 (of_z w32 (pos 0 -ℤ to_z w32 m)))) (count + 1)
  unfolding written_for numbered
  puts_not e h small =
      let one : written_for kind m ≡ neg_ℤ (pos m) ∷ [] = rw e in
      record { counted = rw one; written = rw (stored m small, one) (set_there (neg_ℤ (pos m)) h) }

  -- kind 2 puts m
  pub puts_pair : kind ≡ 2 → count < length buffer → m ≤ 496 → Wrote (written_for kind m) buffer count (set buffer count (to_z w32 m)) (count + 1)
  unfolding written_for numbered
  puts_pair e h small =
      let one : written_for kind m ≡ pos m ∷ [] = rw e in
      record { counted = rw one; written = rw (as_signed m small, one) (set_there (pos m) h) }

  -- kind 0 nothing
  pub puts_none : kind ≡ 0 → Wrote (written_for kind m) buffer count buffer count
  unfolding written_for numbered
  puts_none e =
      let none : written_for kind m ≡ [] = rw e in
      let z : count + 0 ≡ count = omega arith in
      record { counted = rw none (sym z); written = rw (none, z, append-nil (take count buffer)) (sym (take-append-drop count buffer)) }
