-- `Text::field` meets its contract. Assumes nothing.
use Rattle.std.proofs.Common.{arith}
use Rattle.text.proofs.StoredLaws.{appends_next}
use Rattle.text.proofs.text.Text.field.Goals as goal

pub byte-requires : goal.byte-requires
byte-requires c = omega (arith, c.word.ensures.same_length, c.word.ensures.stored.the_end, c.requires)

pub returns : goal.returns
returns c = appends_next c.word.ensures c.byte.ensures
