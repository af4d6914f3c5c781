-- Each field of a number of bytes is what was told.
use Prim.Native.Nat.{ℕ, ◌+◌, ◌≤◌}
use native.Mathlib.Omega.{arith}
use mathlib.Core.Path.{◌≡◌, refl}
use mathlib.Core.Logic.{◌≢◌}
use mathlib.Core.List.{List}
use Rattle.std.specs.Prelude.{Result, Ok, Err}
use Rattle.refusal.specs.declared.Refusal.{Refusal}
use Rattle.refusal.specs.Numbers.{refusal_told, place_told, value_told}
use Rattle.refusal.proofs.NumberLaws.{number_range}
use Rattle.graph.specs.declared.Graph.{Graph}
use Rattle.record.specs.Answers.{record_at, write_answer}
use Rattle.packing.specs.Packing.{low_in, code_in, counted}
use Rattle.packing.proofs.Apart.{counted_given, counted_refused}
use Rattle.cafruzek.proofs.Bounds.{extent_small, written_small}

-- the value that is told, with code 0
given : (r : Result ℕ Refusal) → refusal_told r ≡ 0 → value_told 0 r ≤ 129 → (low_in (counted r) ≡ value_told 0 r) × (code_in (counted r) ≡ 0)
given (Ok count) e few = counted_given count few
given (Err e) told few = absurd (omega (arith, number_range e))

-- or the place and the number of the refusal
refused : (r : Result ℕ Refusal) → refusal_told r ≢ 0 → place_told r ≤ 496 → (low_in (counted r) ≡ place_told r) × (code_in (counted r) ≡ 128 + refusal_told r)
refused (Ok count) ne small = absurd (ne refl)
refused (Err e) ne small = counted_refused e small

-- of the record at the start of some bytes
module _ (s : List ℕ) where
  -- its size
  pub size_given : refusal_told (record_at s) ≡ 0 → (low_in (counted (record_at s)) ≡ value_told 0 (record_at s)) × (code_in (counted (record_at s)) ≡ 0)
  size_given e = given (record_at s) e (extent_small s).2

  -- or the refusal
  pub size_refused : refusal_told (record_at s) ≢ 0 → (low_in (counted (record_at s)) ≡ place_told (record_at s)) × (code_in (counted (record_at s)) ≡ 128 + refusal_told (record_at s))
  size_refused ne = refused (record_at s) ne (extent_small s).1

-- of a record that is written
module _ (g : Graph) (out : List ℕ) where
  -- the bytes written
  pub write_given : refusal_told (write_answer g out) ≡ 0 → (low_in (counted (write_answer g out)) ≡ value_told 0 (write_answer g out)) × (code_in (counted (write_answer g out)) ≡ 0)
  write_given e = given (write_answer g out) e (written_small g out).2

  -- or the refusal
  pub write_refused : refusal_told (write_answer g out) ≢ 0 → (low_in (counted (write_answer g out)) ≡ place_told (write_answer g out)) × (code_in (counted (write_answer g out)) ≡ 128 + refusal_told (write_answer g out))
  write_refused ne = refused (write_answer g out) ne (omega (arith, written_small g out))
