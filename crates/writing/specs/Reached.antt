-- How far the writing of a record has come.
use Rattle.std.specs.Prelude.{ℕ, ◌+◌, ◌*◌, ◌≤◌, ◌<◌, ◌≡◌, List, ◌++◌, length, drop}
use Rattle.laws.specs.UpTo.{list_up_to}
use Rattle.laws.specs.Num.{num}
use Rattle.graph.specs.declared.Graph.{Graph}
use Rattle.record.specs.Layout.{byte_count}
use Rattle.record.specs.Writing.{record_bit, record_byte}
use Rattle.pen.specs.declared.Pen.{Pen}

-- the bits before a place are stored in o, which was d, or wait in the pen p
pub record Reached (g : Graph) (d o : List ℕ) (p : Pen) (place : ℕ) : Type 0 where
  pub at : 8 * p.stored + p.have ≡ place
  pub few : p.have < 64
  pub bits : p.kept ≡ num (record_bit g) (8 * p.stored) p.have
  pub bytes : o ≡ list_up_to (record_byte g) p.stored ++ drop p.stored d
  pub long : length o ≡ length d
  pub room : byte_count g.order ≤ length d
