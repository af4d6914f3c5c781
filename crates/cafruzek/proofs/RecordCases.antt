-- What the calls on records ask of what reading and writing answer.
use Prim.Native.Nat.{ℕ, ◌≤◌}
use mathlib.Core.Path.{◌≡◌, refl}
use mathlib.Core.Bool.{true}
use mathlib.Core.List.{List}
use Rattle.std.specs.Prelude.{Result, Ok, Err, IfOk}
use Rattle.refusal.specs.declared.Refusal.{Refusal}
use Rattle.refusal.specs.Numbers.{refusal_told, value_told}
use Rattle.graph.specs.declared.Graph.{Graph}
use Rattle.graph.specs.Answers.{no_graph}
use Rattle.graph.specs.WellFormed.{WellFormed, well_formed}
use Rattle.graph.proofs.Formed.{tested}
use Rattle.record.specs.Answers.{record_at, read_answer, write_answer}
use Rattle.record.proofs.ReadWritten.{read_formed}
use Rattle.cafruzek.proofs.Bounds.{extent_small, written_small}

-- reading accepts only a well-formed graph
pub read_checked : (s : List ℕ) (r : Result Graph Refusal) (g : Graph) → r ≡ read_answer s → r ≡ Ok g → well_formed g ≡ true
read_checked s r g is_r e = tested g (go (read_answer s) (read_formed s) (rw is_r at e))
  where
    go : (a : Result Graph Refusal) → (refusal_told a ≡ 0 → WellFormed (value_told no_graph a)) → a ≡ Ok g → WellFormed g
    go a formed q = rw q at (formed (rw q refl))

-- a number of bytes that is told up to 129
few : (r : Result ℕ Refusal) → value_told 0 r ≤ 129 → IfOk r (λ count. count ≤ 129)
few (Ok count) h = h
few (Err e) h = tt

-- so it is with a record's
pub extent_few : (s : List ℕ) (r : Result ℕ Refusal) → r ≡ record_at s → IfOk r (λ count. count ≤ 129)
extent_few s r e = rw e (few (record_at s) (extent_small s).2)

-- and with those that are written
pub written_few : (g : Graph) (out : List ℕ) (r : Result ℕ Refusal) → r ≡ write_answer g out → IfOk r (λ count. count ≤ 129)
written_few g out r e = rw e (few (write_answer g out) (written_small g out).2)
