-- The vertices in use as a mask.
use Rattle.std.specs.Prelude.{ℕ, ◌+◌, ◌-◌, ◌^◌, List, [], ◌∷◌}

-- the vertices of b as a mask
unfoldable pub used_mask : List ℕ → ℕ
used_mask [] = 0
used_mask (v ∷ b) =
    let rest = used_mask b in
    2 ^ (v - 1) + rest
