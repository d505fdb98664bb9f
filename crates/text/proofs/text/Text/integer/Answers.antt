-- `Text::integer` meets its contract. Assumes nothing.
use mir.Facts.{to_z-of_z}
use Rattle.text.proofs.StoredLaws.{appends_next}
use Rattle.text.proofs.text.Text.integer.Goals as goal

pub returns-clause-appended : goal.returns-clause-appended
returns-clause-appended c = appends_next (rw (to_z-of_z c.ranges.z) at c.signed.ensures.appended) c.byte.ensures
