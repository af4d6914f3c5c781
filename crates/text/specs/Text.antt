-- A text as its bytes.
use Rattle.std.specs.Prelude.{ℕ, List, [], ◌∷◌}
use Prim.Native.Char.{code}
use Prim.Native.String.{String, [] as none, ◌∷◌ as ◌then◌}

-- the codes of the characters of a text, which are its bytes where each is below 128
unfoldable pub bytes_of : String → List ℕ
bytes_of none = []
bytes_of (c then s) = code c ∷ bytes_of s
