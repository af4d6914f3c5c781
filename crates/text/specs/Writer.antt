-- What a writer puts into its buffer.
use Rattle.std.specs.Prelude.{◌≡◌, ℕ, List}
use Rattle.text.specs.declared.writer.Writer.{Writer}
use Rattle.text.specs.Page.{page, written}

-- a text, and the buffer is the same one
pub record Puts (old : Writer) (text : List ℕ) (new : Writer) : Type 0 where
  pub same_buffer : new.out.ghost_name ≡ old.out.ghost_name
  pub adds : page new.out.now new.at ≡ written (page old.out.now old.at) text
