-- Text stored in a buffer. Assumes nothing.
use Rattle.std.specs.Prelude.{List, ◌≡◌, ℕ, ◌+◌, length}
use Rattle.text.specs.declared.text.Text.{Text}
use Rattle.std.proofs.lemmas.List.Edits.{sets}

-- the text stands in the buffer from a place on, up to the end that is answered, and elsewhere the buffer is as it was
pub record Stored (before : List ℕ) (at : ℕ) (text : List ℕ) (end : ℕ) (after : List ℕ) : Type 0 where
  pub the_end : end ≡ at + length text
  pub the_bytes : after ≡ sets before at text

-- the text stands behind what there was, in the same buffer
pub record Appends (before : Text) (text : List ℕ) (after : Text) : Type 0 where
  pub stored : Stored before.buffer.now before.length text after.length after.buffer.now
  pub same_length : length after.buffer.now ≡ length before.buffer.now
  pub same_buffer : after.buffer.ghost_name ≡ before.buffer.ghost_name
