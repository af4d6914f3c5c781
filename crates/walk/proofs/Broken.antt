-- A drawing breaks the written clause exactly where it breaks the literals.
use Prim.Native.Nat.{ℕ, zero, suc}
use native.Mathlib.Omega.{arith}
use mathlib.Core.Path.{ap, ◌∙◌}
use mathlib.Core.Logic.{◌↔◌}
use mathlib.Core.Bool.{Bool}
use mathlib.Core.List.{List, Memᴰ}
use Rattle.laws.specs.Each.{Each}
use Rattle.walk.specs.Walk.{Tells}
use Rattle.walk.specs.Clause.{Literal, absent, present, pair_in, signed, Numbered, clause, Written, FalseIn, Breaks, FalseAt, BreaksClause, Consistent}
use Rattle.walk.proofs.Number.{one_pair, has_number}
use Rattle.walk.proofs.Clause.{literal_stands, clause_written}

-- a literal is false exactly where its number is
pub signed_false : {P : Type 0} (ks : List P) (H : P → ℕ) (l : Literal P) (m : ℕ) → Numbered ks (pair_in l) m → FalseIn H l ↔ FalseAt ks H (signed l m)
signed_false ks H (absent k) zero at = absurd (omega (arith, at.count))
signed_false ks H (absent k) (suc m) at = (λ f j b. ap H (one_pair b at) ∙ f, λ f. f k at)
signed_false ks H (present k) m at = (λ f j b. ap H (one_pair b at) ∙ f, λ f. f k at)

module _ {P : Type 0} {same : P → P → Bool} (tells : Tells same) where
  -- for literals of which no pair is one with and without "not", and whose pairs are in ks
  pub clause_breaks : (lits : List (Literal P)) (ks : List P) (H : P → ℕ) → Consistent lits → Each (λ l. Memᴰ (pair_in l) ks) lits
      → Breaks lits H ↔ BreaksClause ks (clause same lits ks) H
  clause_breaks lits ks H consistent inside = (to, from)
    where
      to : Breaks lits H → BreaksClause ks (clause same lits ks) H
      to b z m =
          let w : Written lits ks z = clause_written tells lits ks z m in
          rw w.written ((signed_false ks H w.literal w.number w.place).0 (b w.literal w.listed))

      from : BreaksClause ks (clause same lits ks) H → Breaks lits H
      from b l m =
          let (n, at) = has_number (inside l m) in
          (signed_false ks H l n at).1 (b (signed l n) (literal_stands tells lits ks l n consistent m at))

-- literals that are all false in one drawing are of no pair with and without "not"
pub false_consistent : {P : Type 0} (lits : List (Literal P)) (v : P → ℕ) → Breaks lits v → Consistent lits
false_consistent lits v b k m i = omega (arith, b (absent k) m, b (present k) i)
