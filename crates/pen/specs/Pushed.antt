-- What one more field changes.
use Rattle.std.specs.Prelude.{ℕ, ◌+◌, ◌-◌, ◌*◌, ◌/◌, ◌%◌, ◌^◌, ◌≡◌, List, ltb}
use Rattle.laws.specs.Test.{pick}
use Rattle.pen.specs.declared.Pen.{Pen}
use Rattle.pen.specs.Stored.{stored}

-- how many bits wait then
abbrev pub among : Pen → ℕ → ℕ
among p w = p.have + w

-- the eight bytes that are full
abbrev pub full : Pen → ℕ → ℕ → ℕ
full p v w = p.kept * 2 ^ (64 - p.have) + v / 2 ^ (among p w - 64)

pub record IsPushed (o : List ℕ) (p : Pen) (v w : ℕ) (o' : List ℕ) (r : Pen) : Type 0 where
  pub is_stored : r.stored ≡ pick (ltb (among p w) 64) p.stored (p.stored + 8)
  pub is_have : r.have ≡ pick (ltb (among p w) 64) (among p w) (among p w - 64)
  pub is_kept : r.kept ≡ pick (ltb (among p w) 64) (p.kept * 2 ^ w + v) (v % 2 ^ (among p w - 64))
  pub is_out : o' ≡ pick (ltb (among p w) 64) o (stored o p.stored (full p v w) 8)
