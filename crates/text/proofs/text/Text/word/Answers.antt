-- `Text::word` meets its contract. Assumes nothing.
use Rattle.std.proofs.Common.{refl}
use Rattle.text.proofs.StoredLaws.{stored, part_stored, stored_length}
use Rattle.text.proofs.text.Text.word.Goals as goal

pub returns : goal.returns
returns c =
    let all = stored refl (part_stored c.args.self.now.buffer.now c.args.word.now c.copy_from_slice.new.self c.args.self.now.length c.requires c.copy_from_slice.ensures.after) in
    record { stored = all; same_length = stored_length all; same_buffer = refl }
